-- A rank goes on without the board: what it does by itself and a delivery, of however many parts, are one step.
use Rattle.std.proofs.Common.{◌≡◌, ◌≢◌, ℕ, zero, suc, ◌+◌, ◌<◌, ◌≤◌, Bool, true, false, cond, List, [], ◌∷◌, ◌++◌, length}
use Rattle.std.proofs.Common.{map, drop, Option, Some, None, refl, sym, ◌∙◌, ap, subst, arith, append_assoc, length-append}
use Rattle.std.specs.Prelude.{nat_lt, slice_get, slice_index, if◌then◌else◌}
use Rattle.std.specs.Option.{option_and_then}
use Rattle.std.proofs.Math.Path.{fun_ext}
use Rattle.std.proofs.lemmas.Bool.{ltb-true, ltb-false}
use Rattle.std.proofs.lemmas.List.{length-map}
use Rattle.list_laws.proofs.Each.{each_append}
use Rattle.call_rules.specs.declared.cells.Cell.{Cell}
use Rattle.call_rules.specs.Layout.{cells_of}
use Rattle.cell_face.specs.Faces.{Face, Keeps, cell_count}
use Rattle.kept_rows.specs.Gifts.{Given}
use Rattle.lawful_runs.specs.Stages.{Stage}
use Rattle.rank_laws.proofs.Histories.{most_same}
use Rattle.rank_laws.specs.Deliveries.{Delivers, IsDelivered}
use Rattle.rank_laws.specs.Fronts.{Lows}
use Rattle.rank_laws.specs.Lives.{IsMade, Drains, Stays, Drained}
use Rattle.rank_rules.specs.declared.pending.PendingAccess.{PendingAccess}
use Rattle.step_runs.specs.Agents.{Agent, new_agent, tries_entry}
use Rattle.step_runs.specs.DataSteps.{Move, move_of}
use Rattle.rank_histories.proofs.Parts.{begun_fresh, begun_partly, delivery_on}
use Rattle.rank_histories.specs.Among.{AreOfOthers, Begins, HasLife, LivesAmong, Steps}
use Rattle.rank_histories.specs.Partly.{AreUntouched, HasDelivered, DeliversOn, IsAmong, IsBetween, IsWithin}
use Rattle.rank_histories.specs.Partly.{IsDrained, IsDraining, IsWithinDrain, opened_after, lows_of}

-- ---- before the first step

-- a rank before its first step, over a memory of which it can touch every state
pub between_first : (stage : Stage) (seed rank : ℕ) (face : Face) →
    ((cell : ℕ) → slice_index face.lows cell ≡ 0) →
    IsBetween stage seed rank [] (new_agent stage seed rank) [] face
between_first stage seed rank face none = record {
  life = record {
    known = [];
    later = [];
    life = subst (λ (lows : Lows). LivesAmong stage seed rank (new_agent stage seed rank) [] lows)
        (fun_ext (λ cell. sym (by cell (nat_lt cell (cells_of stage.layout))))) Begins;
    all = refl;
    apart = tt;
  };
  untouched = tt;
}
  where
    by : (cell : ℕ) (b : Bool) → cond b (slice_index face.lows cell) 0 ≡ 0
    by cell true = none cell
    by cell false = refl

-- ---- what a rank does by itself

-- nothing is touched of the accesses that a rank issues by itself
pub untouched_more : (touched : List ℕ) (ones : List PendingAccess) → AreUntouched touched →
    AreUntouched (touched ++ map (λ (_ : PendingAccess). 0) ones)
untouched_more [] [] all = tt
untouched_more [] (one ∷ ones) all = (refl, untouched_more [] ones tt)
untouched_more (count ∷ touched) ones all = (all.0, untouched_more touched ones all.1)

-- and each of its accesses is counted
pub counted_more : (touched : List ℕ) (pending ones : List PendingAccess) (at : ℕ) →
    length touched ≡ length pending → at < length ones →
    at < length (touched ++ map (λ (_ : PendingAccess). 0) (drop (length pending) ones))
counted_more touched pending ones at same below =
    let left = drop (length pending) ones in
    let none_touched : PendingAccess → ℕ = λ _. 0 in
    let long = length-append touched (map none_touched left) in
    let mapped = length-map left none_touched in
    let dropped = length_dropped (length pending) ones in
    omega (arith, same, below, long, mapped, dropped)
  where
    length_dropped : (n : ℕ) (xs : List PendingAccess) → length xs ≤ n + length (drop n xs)
    length_dropped zero xs = omega arith
    length_dropped (suc n) [] = omega arith
    length_dropped (suc n) (x ∷ xs) = (let rest = length_dropped n xs in omega (arith, rest))

-- the place of the access that a move delivers, where one is pending there
abbrev pub delivery_in : Move → Option ℕ
delivery_in move =
    option_and_then (λ at. if nat_lt at (length move.agent.pending) then Some at else None) move.delivers

pub delivery_none : (move : Move) → delivery_in move ≡ None → (at : ℕ) → move.delivers ≡ Some at →
    slice_get move.agent.pending at ≡ None
delivery_none move none at is = by (nat_lt at (length move.agent.pending)) refl
    (sym (ap (option_and_then (λ at. if nat_lt at (length move.agent.pending) then Some at else None)) is) ∙ none)
  where
    past : (xs : List PendingAccess) (at : ℕ) → length xs ≤ at → slice_get xs at ≡ None
    past [] at le = refl
    past (x ∷ xs) zero le = absurd (omega (arith, le))
    past (x ∷ xs) (suc at) le = past xs at (omega (arith, le))

    by : (b : Bool) → nat_lt at (length move.agent.pending) ≡ b → cond b (Some at) None ≡ None →
        slice_get move.agent.pending at ≡ None
    by true e h = absurd (cc h)
    by false e h = past move.agent.pending at (ltb-false at (length move.agent.pending) e)

pub delivery_some : (move : Move) (at : ℕ) → delivery_in move ≡ Some at →
    (move.delivers ≡ Some at) × (at < length move.agent.pending)
delivery_some move at is = by move.delivers refl
  where
    by : (o : Option ℕ) → move.delivers ≡ o → (move.delivers ≡ Some at) × (at < length move.agent.pending)
    by None e = absurd (cc (sym (ap (option_and_then (λ n. if nat_lt n (length move.agent.pending) then Some n
        else None)) e) ∙ is))
    by (Some n) e = inside (nat_lt n (length move.agent.pending)) refl
        (sym (ap (option_and_then (λ n. if nat_lt n (length move.agent.pending) then Some n else None)) e) ∙ is)
      where
        inside : (b : Bool) → nat_lt n (length move.agent.pending) ≡ b → cond b (Some n) None ≡ Some at →
            (move.delivers ≡ Some at) × (at < length move.agent.pending)
        inside true below h =
            let same : n ≡ at = cc h in (
              e ∙ ap Some same,
              subst (λ k. k < length move.agent.pending) same
                  (ltb-true n (length move.agent.pending) below),
            )
        inside false below h = absurd (cc h)

-- ---- steps

life_steps : (stage : Stage) (seed rank : ℕ) (entries : List Given) (agent next : Agent) (lows after : Lows) →
    HasLife stage seed rank entries agent lows → tries_entry stage agent ≡ false →
    IsMade stage (move_of stage agent) lows next after → HasLife stage seed rank entries next after
life_steps stage seed rank entries agent next lows after life tries made = record {
  known = life.known;
  later = life.later;
  life = Steps agent next life.known lows after life.life tries made;
  all = life.all;
  apart = life.apart;
}

-- a step that delivers nothing
pub steps_alone : (stage : Stage) (seed rank : ℕ) (entries : List Given) (agent : Agent) (touched more : List ℕ)
    (face : Face) → IsBetween stage seed rank entries agent touched face → tries_entry stage agent ≡ false →
    ((at : ℕ) → (move_of stage agent).delivers ≡ Some at → slice_get (move_of stage agent).agent.pending at ≡ None) →
    AreUntouched more → IsBetween stage seed rank entries (move_of stage agent).agent more face
steps_alone stage seed rank entries agent touched more face between tries nothing untouched = record {
  life = life_steps stage seed rank entries agent move.agent lows lows between.life tries (by move.delivers refl);
  untouched = untouched;
}
  where
    move : Move
    move = move_of stage agent

    lows : Lows
    lows = lows_of stage face

    by : (o : Option ℕ) → move.delivers ≡ o → Delivers stage move.agent o lows move.agent lows
    by None e = (refl, most_same lows)
    by (Some at) e = subst (λ (o : Option PendingAccess). IsDelivered stage move.agent at o lows move.agent lows)
        (sym (nothing at e)) (refl, most_same lows)

-- the delivery of a step, done or begun
step_after : (stage : Stage) (seed rank : ℕ) (entries : List Given) (before : Agent) (since : Face) (at : ℕ)
    (agent : Agent) (touched : List ℕ) (face : Face) (knows : ℕ → Cell → Type 0) (done : Bool) →
    HasLife stage seed rank entries before (lows_of stage since) → tries_entry stage before ≡ false →
    (move_of stage before).delivers ≡ Some at →
    HasDelivered done stage (move_of stage before).agent at since agent touched face knows →
    IsAmong (opened_after done at) stage seed rank entries agent touched face knows
step_after stage seed rank entries before since at agent touched face knows true life tries is made = record {
  life = life_steps stage seed rank entries before agent (lows_of stage since) (lows_of stage face) life tries
      (subst (λ (o : Option ℕ). Delivers stage (move_of stage before).agent o (lows_of stage since) agent
      (lows_of stage face)) (sym is) made.0);
  untouched = made.1;
}
step_after stage seed rank entries before since at agent touched face knows false life tries is made = record {
  before = before;
  since = since;
  life = life;
  tries = tries;
  delivers = is;
  partly = made;
}

-- a step that begins a delivery, after what the rank does by itself
pub steps_begin : (stage : Stage) (seed rank : ℕ) (entries : List Given) (agent : Agent) (touched begun : List ℕ)
    (face : Face) (knew : ℕ → Cell → Type 0) (at : ℕ) (after : Agent) (touched_after : List ℕ) (face_after : Face)
    (knows : ℕ → Cell → Type 0) (done : Bool) →
    IsBetween stage seed rank entries agent touched face → tries_entry stage agent ≡ false →
    (move_of stage agent).delivers ≡ Some at → at < length begun → AreUntouched begun →
    cell_count face ≡ cells_of stage.layout → Keeps knew knows →
    DeliversOn stage (move_of stage agent).agent begun face at done after touched_after face_after knows →
    IsAmong (opened_after done at) stage seed rank entries after touched_after face_after knows
steps_begin stage seed rank entries agent touched begun face knew at after touched_after face_after knows done between
    tries is below untouched room keeps made =
    let start = (move_of stage agent).agent in
    step_after stage seed rank entries agent face at after touched_after face_after knows done between.life tries is
    (delivery_on stage start at face start begun face knew after touched_after face_after knows done room room
    (begun_fresh stage start at begun face knew below untouched) keeps made.rank made.delivers)

-- a step goes on with the delivery that it began
pub steps_go_on : (stage : Stage) (seed rank : ℕ) (entries : List Given) (agent : Agent) (touched : List ℕ) (at : ℕ)
    (face : Face) (knew : ℕ → Cell → Type 0) (after : Agent) (touched_after : List ℕ) (face_after : Face)
    (knows : ℕ → Cell → Type 0) (done : Bool) → IsWithin stage seed rank entries agent touched at face knew →
    cell_count face ≡ cells_of stage.layout → Keeps knew knows →
    DeliversOn stage agent touched face at done after touched_after face_after knows →
    IsAmong (opened_after done at) stage seed rank entries after touched_after face_after knows
steps_go_on stage seed rank entries agent touched at face knew after touched_after face_after knows done within room
    keeps made =
    let start = (move_of stage within.before).agent in
    step_after stage seed rank entries within.before within.since at after touched_after face_after knows done
    within.life within.tries within.delivers
    (delivery_on stage start at within.since agent touched face knew after touched_after face_after knows done
    (sym within.partly.touches.made.stays.cells ∙ room) room
    (begun_partly stage start at within.since agent touched face knew within.partly) keeps made.rank
    made.delivers)

-- ---- others' entries

life_learns : (stage : Stage) (seed rank : ℕ) (entries more : List Given) (agent : Agent) (lows : Lows) →
    AreOfOthers rank more → HasLife stage seed rank entries agent lows →
    HasLife stage seed rank (entries ++ more) agent lows
life_learns stage seed rank entries more agent lows others life = record {
  known = life.known;
  later = life.later ++ more;
  life = life.life;
  all = ap (λ l. l ++ more) life.all ∙ append_assoc life.known life.later more;
  apart = each_append (λ (one : Given). one.row.rank ≢ rank) life.later more life.apart others;
}

-- others put entries, whatever the rank is at
pub among_learns : (opened : Option ℕ) (stage : Stage) (seed rank : ℕ) (entries more : List Given) (agent : Agent)
    (touched : List ℕ) (face : Face) (knows : ℕ → Cell → Type 0) → AreOfOthers rank more →
    IsAmong opened stage seed rank entries agent touched face knows →
    IsAmong opened stage seed rank (entries ++ more) agent touched face knows
among_learns None stage seed rank entries more agent touched face knows others between = record {
  life = life_learns stage seed rank entries more agent (lows_of stage face) others between.life;
  untouched = between.untouched;
}
among_learns (Some at) stage seed rank entries more agent touched face knows others within = record {
  before = within.before;
  since = within.since;
  life = life_learns stage seed rank entries more within.before (lows_of stage within.since) others within.life;
  tries = within.tries;
  delivers = within.delivers;
  partly = within.partly;
}

-- ---- drains

drain_after : (stage : Stage) (stopped : Agent) (lows : Lows) (before : Agent) (since : Face)
    (agent : Agent) (touched : List ℕ) (face : Face) (knows : ℕ → Cell → Type 0) (done : Bool) →
    Drains stage stopped lows before (lows_of stage since) →
    HasDelivered done stage before 0 since agent touched face knows →
    IsDrained (opened_after done 0) stage stopped lows agent touched face knows
drain_after stage stopped lows before since agent touched face knows true drains made = record {
  drains = Drained before agent (lows_of stage since) (lows_of stage face) drains made.0;
  untouched = made.1;
}
drain_after stage stopped lows before since agent touched face knows false drains made =
    (refl, record { before = before; since = since; drains = drains; partly = made })

-- a rank that stops between two steps delivers what is pending
pub drains_stay : (stage : Stage) (seed rank : ℕ) (entries : List Given) (agent : Agent) (touched : List ℕ)
    (face : Face) → IsBetween stage seed rank entries agent touched face →
    IsDraining stage agent (lows_of stage face) agent touched face
drains_stay stage seed rank entries agent touched face between =
    record { drains = Stays; untouched = between.untouched }

-- a drain begins a delivery
pub drains_begin : (stage : Stage) (stopped : Agent) (lows : Lows) (agent : Agent) (touched : List ℕ)
    (face : Face) (knew : ℕ → Cell → Type 0) (after : Agent) (touched_after : List ℕ) (face_after : Face)
    (knows : ℕ → Cell → Type 0) (done : Bool) → IsDraining stage stopped lows agent touched face →
    0 < length touched → cell_count face ≡ cells_of stage.layout → Keeps knew knows →
    DeliversOn stage agent touched face 0 done after touched_after face_after knows →
    IsDrained (opened_after done 0) stage stopped lows after touched_after face_after knows
drains_begin stage stopped lows agent touched face knew after touched_after face_after knows done draining below room
    keeps made =
    drain_after stage stopped lows agent face after touched_after face_after knows done draining.drains
    (delivery_on stage agent 0 face agent touched face knew after touched_after face_after knows done room room
    (begun_fresh stage agent 0 touched face knew below draining.untouched) keeps made.rank made.delivers)

-- a drain goes on with the delivery that it began
pub drains_go_on : (stage : Stage) (stopped : Agent) (lows : Lows) (agent : Agent) (touched : List ℕ)
    (face : Face) (knew : ℕ → Cell → Type 0) (after : Agent) (touched_after : List ℕ) (face_after : Face)
    (knows : ℕ → Cell → Type 0) (done : Bool) → IsWithinDrain stage stopped lows agent touched face knew →
    cell_count face ≡ cells_of stage.layout → Keeps knew knows →
    DeliversOn stage agent touched face 0 done after touched_after face_after knows →
    IsDrained (opened_after done 0) stage stopped lows after touched_after face_after knows
drains_go_on stage stopped lows agent touched face knew after touched_after face_after knows done within room keeps
    made =
    drain_after stage stopped lows within.before within.since after touched_after face_after knows done within.drains
    (delivery_on stage within.before 0 within.since agent touched face knew after touched_after face_after knows done
    (sym within.partly.touches.made.stays.cells ∙ room) room
    (begun_partly stage within.before 0 within.since agent touched face knew within.partly) keeps made.rank
    made.delivers)
