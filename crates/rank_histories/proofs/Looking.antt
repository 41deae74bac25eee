-- A step at the board goes on with the history of its rank: what it puts, gives and gains.
use Rattle.std.proofs.Common.{◌≡◌, ◌≢◌, ℕ, zero, suc, ◌+◌, inl, inr, Bool, true, false, cond, List, [], ◌∷◌}
use Rattle.std.proofs.Common.{◌++◌, length, map, Option, Some, None, refl, sym, ◌∙◌, ap, subst, arith, IfSome}
use Rattle.std.proofs.Common.{append_assoc, append-nil, length-append}
use Rattle.std.specs.Prelude.{◌||◌, slice_get, take, drop}
use Rattle.std.specs.List.{AllByRecursion}
use Rattle.std.specs.Option.{option_map_or}
use Rattle.std.proofs.lemmas.List.{length-map, map-append}
use Rattle.list_laws.proofs.Each.{each_append, each_front}
use Rattle.list_laws.proofs.Truths.{or_true}
use Rattle.rma_types.specs.declared.accesses.Step.TheVariants.{Arrive, Leave, One}
use Rattle.rma_types.proofs.CallLaws.{call_kept_again}
use Rattle.rma_record.specs.declared.items.Item.{Item}
use Rattle.agreement_laws.proofs.BoardItems.{AreItemsOfRows, NoItem, Quiet, Single, Double, board_adds}
use Rattle.agreement_laws.proofs.OneEdge.{Releases, edge_ends, releases_by}
use Rattle.board_rules.specs.Edges.{Event}
use Rattle.board_rules.specs.Entries.{Row, is_arrive}
use Rattle.rma_types.specs.declared.actions.Synchronisation.{Synchronisation}
use Rattle.rma_types.specs.declared.actions.Synchronisation.TheVariants.{Fences, Posts, Starts, Completes, Waits, Locks}
use Rattle.rma_types.specs.declared.actions.Synchronisation.TheVariants.{Unlocks, Flushes, Syncs}
use Rattle.rma_types.specs.Actions.{synchronisation_of}
use Rattle.call_rules.specs.Layout.{cells_of}
use Rattle.cell_face.specs.Faces.{Face}
use Rattle.kept_rows.specs.Gifts.{Given, gained_by, rows_given}
use Rattle.kept_rows.specs.KeptCalls.{kept_row}
use Rattle.kept_rows.specs.KeptRowLaws.{kept_rows}
use Rattle.lawful_runs.specs.Stages.{Stage}
use Rattle.rank_laws.proofs.Histories.{most_same}
use Rattle.rank_laws.proofs.Lists.{get_rest}
use Rattle.rank_laws.specs.Fronts.{AreAtMost, Put, rows_put, event_after, LiesBetween, MeetsEdges, ArePut}
use Rattle.step_runs.specs.Agents.{Agent}
use Rattle.step_runs.specs.BoardSteps.{board_step}
use Rattle.rank_histories.proofs.Gained.{gains_meet}
use Rattle.rank_histories.proofs.Parts.{lows_rise}
use Rattle.rank_histories.specs.Among.{HasLife, LooksAmong, LivesAmong, Looks, AreOfOthers, AreGainsMet, GivesLows, Tells}
use Rattle.rank_histories.specs.Among.{front_of, gives, hands_on, lows_in, put_of, puts_of, IsMetBy, PutsAmong}
use Rattle.rank_histories.specs.Partly.{IsBetween, lows_of}

-- ---- what is given

hands_as_releases : (s : Synchronisation) → releases_by s ≡ true → hands_on s ≡ true
hands_as_releases (Fences asserts) e = absurd (cc e)
hands_as_releases (Posts group asserts) e = refl
hands_as_releases (Starts group asserts) e = absurd (cc e)
hands_as_releases Completes e = refl
hands_as_releases (Waits tests) e = absurd (cc e)
hands_as_releases (Locks kind target asserts) e = absurd (cc e)
hands_as_releases (Unlocks target) e = refl
hands_as_releases (Flushes target local) e = absurd (cc e)
hands_as_releases Syncs e = absurd (cc e)

-- from an entry with an edge a token is given
released_gives : (event : Event) → Releases event → gives event.step event.asked.call ≡ true
released_gives event (inl arrives) =
    ap (λ step. is_arrive step || option_map_or hands_on (synchronisation_of event.asked.call) false) arrives
released_gives event (inr (one, s, is, releases)) =
    ap (λ o. is_arrive event.step || option_map_or hands_on o false) is
    ∙ ap (λ b. is_arrive event.step || b) (hands_as_releases s releases) ∙ or_true (is_arrive event.step)

-- no edge leads from a Leave
leave_releases : (event : Event) → event.step ≡ Leave → Releases event → ⊥
leave_releases event is (inl arrives) = let both : Leave ≡ Arrive = sym is ∙ arrives in cc both
leave_releases event is (inr one) = let both : Leave ≡ One = sym is ∙ one.0 in cc both

-- ---- what a step puts

drop_joined : {X : Type 0} (xs ys : List X) (n : ℕ) → n ≡ length xs → drop n (xs ++ ys) ≡ ys
drop_joined [] ys zero e = refl
drop_joined [] ys (suc n) e = absurd (omega (arith, e))
drop_joined (x ∷ xs) ys zero e = absurd (omega (arith, e))
drop_joined (x ∷ xs) ys (suc n) e = drop_joined xs ys n (omega (arith, e))

take_joined : {X : Type 0} (xs ys : List X) (n : ℕ) → n ≡ length xs → take n (xs ++ ys) ≡ xs
take_joined [] ys zero e = refl
take_joined [] ys (suc n) e = absurd (omega (arith, e))
take_joined (x ∷ xs) ys zero e = absurd (omega (arith, e))
take_joined (x ∷ xs) ys (suc n) e = ap (λ rest. x ∷ rest) (take_joined xs ys n (omega (arith, e)))

-- the entries that a step gives are those that it puts, as they are kept
pub given_rows : (stage : Stage) (agent : Agent) (before given : List Given) →
    rows_given given ≡ map kept_row (drop (length before) (board_step stage agent (rows_given before)).rows) →
    rows_given given ≡ kept_rows (board_adds stage agent (rows_given before)).more
given_rows stage agent before given is =
    let adds = board_adds stage agent (rows_given before) in
    is ∙ ap (λ rows. map kept_row (drop (length before) rows)) adds.now
    ∙ ap (map kept_row) (drop_joined (rows_given before) adds.more (length before)
    (sym (length-map before (λ (one : Given). one.row))))

-- the entries that a step gave, from those of the whole list
pub given_by : (before given : List Given) (rows : List Row) →
    rows_given (before ++ given) ≡ rows_given before ++ rows →
    rows_given given ≡ rows
given_by [] given rows e = e
given_by (one ∷ before) given rows e = given_by before given rows (cc e)

-- what is known of the entries of a step: lows are the lowest places before it, and after those after it
record IsStep (ranks cells : ℕ) (before given : List Given) (more : List Row) (lows after : List ℕ) : Type 0 where
  rows : rows_given given ≡ kept_rows more
  gifts : AllByRecursion (GivesLows lows) given
  tells : AllByRecursion Tells (before ++ given)
  gains : AreGainsMet ranks cells (length before) (before ++ given) (rows_given before ++ more) after
  rise : AreAtMost (lows_in cells lows) (lows_in cells after)

twice : (row kept : Row) → kept ≡ kept_row row → kept_row kept ≡ kept_row row
twice row kept e = ap kept_row e ∙ (λ i. record row { call = call_kept_again row.call i })

-- the first front lies between the lows
lies : (ranks cells : ℕ) (before : List Given) (one : Given) (lows after : List ℕ) → GivesLows lows one →
    AreAtMost (lows_in cells lows) (lows_in cells after) →
    LiesBetween (event_after ranks (rows_put (puts_of cells before)) one.row) (lows_in cells lows)
    (front_of cells one.gift) (lows_in cells after)
lies ranks cells before one lows after gift rise later edge =
    let event = event_after ranks (rows_put (puts_of cells before)) one.row in
    let given = released_gives event (edge_ends event later edge).0 in
    let told : one.gift ≡ Some (Some lows) = gift ∙ ap (λ b. cond b (Some (Some lows)) None) given in
    subst (λ g. AreAtMost (lows_in cells lows) (front_of cells g) × AreAtMost (front_of cells g) (lows_in cells after))
    (sym told) (most_same (lows_in cells lows), rise)

-- what the first entry of a step gains, and what the second
gained_first : (ranks cells : ℕ) (before given : List Given) (row : Row) (rows : List Row) (after : List ℕ) →
    AreGainsMet ranks cells (length before) (before ++ given) (rows_given before ++ row ∷ rows) after →
    IfSome (gained_by ranks before row) (IsMetBy cells after)
gained_first ranks cells before given row rows after gains =
    let there : slice_get (rows_given before ++ row ∷ rows) (length before) ≡ Some row =
    get_rest (rows_given before) (row ∷ rows) (length before) 0
    (let long = length-map before (λ (one : Given). one.row) in omega (arith, long)) in
    subst (λ (l : List Given). IfSome (gained_by ranks l row) (IsMetBy cells after))
    (take_joined before given (length before) refl)
    (subst (λ (o : Option Row). IfSome o (λ row. IfSome (gained_by ranks (take (length before)
    (before ++ given)) row) (IsMetBy cells after))) there (gains (length before) (omega arith)))

gained_second : (ranks cells : ℕ) (before : List Given) (one two : Given) (first second : Row) (after : List ℕ) →
    AreGainsMet ranks cells (length before) (before ++ one ∷ two ∷ [])
    (rows_given before ++ first ∷ second ∷ []) after →
    IfSome (gained_by ranks (before ++ one ∷ []) second) (IsMetBy cells after)
gained_second ranks cells before one two first second after gains =
    let at = length before + 1 in
    let there : slice_get (rows_given before ++ first ∷ second ∷ []) at ≡ Some second =
    get_rest (rows_given before) (first ∷ second ∷ []) at 1
    (let long = length-map before (λ (one : Given). one.row) in omega (arith, long)) in
    let front : take at (before ++ one ∷ two ∷ []) ≡ before ++ one ∷ [] =
    ap (take at) (sym (append_assoc before (one ∷ []) (two ∷ [])))
    ∙ take_joined (before ++ one ∷ []) (two ∷ []) at (sym (length-append before (one ∷ []))) in
    subst (λ (l : List Given). IfSome (gained_by ranks l second) (IsMetBy cells after)) front
    (subst (λ (o : Option Row). IfSome o (λ row. IfSome (gained_by ranks (take at
    (before ++ one ∷ two ∷ [])) row) (IsMetBy cells after))) there (gains at (omega arith)))

are_put : (ranks cells : ℕ) (before given : List Given) (items : List Item) (more : List Row) (at : ℕ)
    (lows after : List ℕ) → IsStep ranks cells before given more lows after → AreItemsOfRows at items more →
    ArePut ranks (puts_of cells before) (lows_in cells lows) (puts_of cells given) (lows_in cells after)
are_put ranks cells before [] _ _ at lows after step NoItem = step.rise
are_put ranks cells before (one ∷ given) _ _ at lows after step NoItem = let e = step.rows in absurd (cc e)
are_put ranks cells before [] _ _ at lows after step (Quiet item plain other) = step.rise
are_put ranks cells before (one ∷ given) _ _ at lows after step (Quiet item plain other) =
    let e = step.rows in absurd (cc e)
are_put ranks cells before [] _ _ at lows after step (Single row) = let e = step.rows in absurd (cc e)
are_put ranks cells before (one ∷ two ∷ given) _ _ at lows after step (Single row) =
    let e = step.rows in absurd (cc e)
are_put ranks cells before (one ∷ []) _ _ at lows after step (Single row) =
    let rows : one.row ∷ [] ≡ kept_row row ∷ [] = step.rows in
    let is : one.row ≡ kept_row row = cc rows in (
      lows_in cells after,
      step.rise,
      lies ranks cells before one lows after step.gifts.0 step.rise,
      gains_meet ranks cells before row one.row after (twice row one.row is)
          (each_front Tells before (one ∷ []) step.tells) (gained_first ranks cells before (one ∷ []) row [] after
          step.gains),
      most_same (lows_in cells after),
    )
are_put ranks cells before [] _ _ at lows after step (Double first second next e leaves) =
    let e = step.rows in absurd (cc e)
are_put ranks cells before (one ∷ []) _ _ at lows after step (Double first second next e leaves) =
    let e = step.rows in absurd (cc e)
are_put ranks cells before (one ∷ two ∷ three ∷ given) _ _ at lows after step (Double first second next e leaves) =
    let e = step.rows in absurd (cc e)
are_put ranks cells before (one ∷ two ∷ []) _ _ at lows after step (Double first second next e leaves) =
    let rows : one.row ∷ two.row ∷ [] ≡ kept_row first ∷ kept_row second ∷ [] = step.rows in
    let is : one.row ≡ kept_row first = cc rows in
    let and_then : two.row ≡ kept_row second = cc rows in
    let longer : List Given = before ++ one ∷ [] in
    let all : before ++ one ∷ two ∷ [] ≡ longer ++ two ∷ [] = sym (append_assoc before (one ∷ []) (two ∷ [])) in
    let puts : puts_of cells longer ≡ puts_of cells before ++ put_of cells one ∷ [] =
    map-append (put_of cells) before (one ∷ []) in
    let second_event = event_after ranks (rows_put (puts_of cells before ++ put_of cells one ∷ [])) two.row in (
      lows_in cells after,
      step.rise,
      lies ranks cells before one lows after step.gifts.0 step.rise,
      gains_meet ranks cells before first one.row after (twice first one.row is)
          (each_front Tells before (one ∷ two ∷ []) step.tells)
          (gained_first ranks cells before (one ∷ two ∷ []) first (second ∷ []) after step.gains),
      (
        lows_in cells after,
        most_same (lows_in cells after),
        λ later edge. absurd (leave_releases second_event (ap (λ (row : Row). row.step) and_then ∙ leaves)
            (edge_ends second_event later edge).0),
        subst (λ (l : List Put). MeetsEdges ranks l two.row (lows_in cells after)) puts
            (gains_meet ranks cells longer second two.row after (twice second two.row and_then)
            (each_front Tells longer (two ∷ []) (subst (AllByRecursion Tells) all step.tells))
            (gained_second ranks cells before one two first second after step.gains)),
        most_same (lows_in cells after),
      ),
    )

gift_tells : (lows : List ℕ) (entries : List Given) → AllByRecursion (GivesLows lows) entries →
    AllByRecursion Tells entries
gift_tells lows [] all = tt
gift_tells lows (one ∷ entries) all =
    (λ none. by (gives one.row.step one.row.call) (sym all.0 ∙ none), gift_tells lows entries all.1)
  where
    by : (b : Bool) → cond b (Some (Some lows)) None ≡ Some None → ⊥
    by true e = cc e
    by false e = cc e

-- a step at the board is a look of the history
pub looks_among : (stage : Stage) (agent : Agent) (before given : List Given) (lows after : List ℕ) →
    PutsAmong stage agent before given lows after →
    LooksAmong stage agent before (lows_in (cells_of stage.layout) lows) given
    (lows_in (cells_of stage.layout) after)
looks_among stage agent before given lows after puts =
    let adds = board_adds stage agent (rows_given before) in
    let cells = cells_of stage.layout in
    record {
      tries = puts.tries;
      rows = puts.rows;
      fronts = are_put stage.script.ranks cells before given adds.items adds.more (length (rows_given before)) lows
          after (record {
            rows = given_rows stage agent before given puts.rows;
            gifts = puts.gifts;
            tells = each_append Tells before given puts.tells (gift_tells lows given puts.gifts);
            gains = subst (λ (l : List Row). AreGainsMet stage.script.ranks cells (length before) (before ++ given) l
                after) adds.now puts.gains;
            rise = lows_rise cells lows after puts.rise;
          }) adds.are;
    }

-- so a rank between two steps is so after one at the board, where others have put some entries since its last one
pub between_looks : (stage : Stage) (seed rank : ℕ) (entries others given : List Given) (agent : Agent)
    (touched : List ℕ) (face after : Face) → IsBetween stage seed rank entries agent touched face →
    AreOfOthers rank others → PutsAmong stage agent (entries ++ others) given face.lows after.lows →
    IsBetween stage seed rank ((entries ++ others) ++ given)
    (board_step stage agent (rows_given (entries ++ others))).agent touched after
between_looks stage seed rank entries others given agent touched face after between apart puts = record {
  life = record {
    known = (entries ++ others) ++ given;
    later = [];
    life = subst (λ (l : List Given). LivesAmong stage seed rank (board_step stage agent (rows_given l)).agent
        (l ++ given) (lows_of stage after)) (sym all)
        (Looks agent life.known theirs given (lows_of stage face) (lows_of stage after) life.life
        (each_append (λ (one : Given). one.row.rank ≢ rank) life.later others life.apart apart)
        (subst (λ (l : List Given). LooksAmong stage agent l (lows_of stage face) given (lows_of stage after)) all
        (looks_among stage agent (entries ++ others) given face.lows after.lows puts)));
    all = sym (append-nil ((entries ++ others) ++ given));
    apart = tt;
  };
  untouched = between.untouched;
}
  where
    life : HasLife stage seed rank entries agent (lows_of stage face)
    life = between.life

    theirs : List Given
    theirs = life.later ++ others

    all : entries ++ others ≡ life.known ++ theirs
    all = ap (λ l. l ++ others) life.all ∙ append_assoc life.known life.later others
