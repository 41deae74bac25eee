-- What every move keeps holds at the end of a rank's whole history.
use Rattle.std.proofs.Common.{◌≡◌, ℕ, inl, inr, Bool, true, false, List, [], ◌++◌, Option, Some, None, refl, sym, ◌∙◌}
use Rattle.std.proofs.Common.{ap, subst, cond}
use Rattle.std.specs.Prelude.{slice_get, is_none, ◌≢◌}
use Rattle.std.specs.List.{AllByRecursion}
use Rattle.std.specs.Option.{option_map_or}
use Rattle.rma_types.specs.declared.calls.Call.{Call}
use Rattle.board_rules.specs.Entries.{Row}
use Rattle.rma_types.specs.Actions.{transfer_of}
use Rattle.lawful_runs.specs.Stages.{Stage}
use Rattle.rank_laws.proofs.DataPaths.{delivery_path, step_path}
use Rattle.rank_laws.proofs.Histories.{is_none_of, look_path, put_rises, others_rows, rows_joined}
use Rattle.rank_laws.proofs.Moves.{Point, point, point_at, Entering, OnlyEntry, LookUp, Arriving, Leaving, IsClosed}
use Rattle.rank_laws.proofs.Moves.{IsDrained, IsDue, Move, Learns, Rises, Ends, RefusesAlone, IsRefused, Tests, Passes}
use Rattle.rank_laws.proofs.Moves.{Enters, Issues, IssuesWhole, Draws, Delivers as DeliversOne, Path, Stays, Goes}
use Rattle.rank_laws.proofs.Ways.{first_is_free}
use Rattle.rank_laws.specs.Deliveries.{IsDelivered}
use Rattle.rank_laws.specs.Fronts.{Lows, first_lows, Put, rows_put, AreOthers}
use Rattle.rank_laws.specs.Lives.{LooksAfter, Lives, Begins as BeginsLife, Looks, Steps, Stops, Drains}
use Rattle.rank_laws.specs.Lives.{Stays as StaysDry, Drained, HasLived}
use Rattle.rank_rules.specs.declared.pending.PendingAccess.{PendingAccess}
use Rattle.step_runs.specs.Agents.{Agent, new_agent, next_call, begins_with_entry}
use Rattle.step_runs.specs.BoardSteps.{board_step}

-- each move keeps it, of a rank that makes steps, or also of one that drains
abbrev pub KeepsIn : Bool → Stage → (Point → Type 0) → Type 0
KeepsIn drains stage P = (p q : Point) → P p → Move drains stage p q → P q

-- each move keeps it
abbrev pub Keeps : Stage → (Point → Type 0) → Type 0
Keeps stage P = KeepsIn true stage P

pub path_keeps : (drains : Bool) (stage : Stage) (P : Point → Type 0) → KeepsIn drains stage P → (p q : Point) →
    P p → Path drains stage p q → P q
path_keeps drains stage P keeps p _ h Stays = h
path_keeps drains stage P keeps p _ h (Goes q r path move) = keeps q r (path_keeps drains stage P keeps p q h path) move

-- ---- the rank

abbrev pub IsOf : ℕ → Point → Type 0
IsOf rank p = p.agent.rank ≡ rank

enters_same : (stage : Stage) (p : Point) (call : Call) (step : _) (after : Agent → Agent) (next : Agent) →
    Entering stage p.agent call step after → (after next).rank ≡ next.rank
enters_same stage p call _ _ next (OnlyEntry begins course) = refl
enters_same stage p call _ _ next (LookUp begins course) = refl
enters_same stage p call _ _ next (Arriving begins course) = refl
enters_same stage p call _ _ next (Leaving here inside none) = refl

pub rank_kept : (drains : Bool) (stage : Stage) (rank : ℕ) → KeepsIn drains stage (IsOf rank)
rank_kept drains stage rank p _ h (Learns more others) = h
rank_kept drains stage rank p _ h (Rises after rise) = h
rank_kept drains stage rank p _ h (Ends past empty going) = h
rank_kept drains stage rank p _ h (RefusesAlone call class here new refuses) = h
rank_kept drains stage rank p _ h (IsRefused call class begins has answer) = h
rank_kept drains stage rank p _ h (Tests call begins course answer) = h
rank_kept drains stage rank p _ h (Passes call item begins plain) = h
rank_kept drains stage rank p _ h (Enters call step after entering answer) =
    enters_same stage p call step after _ entering
    ∙ h
rank_kept drains stage rank p _ h (Issues call t access issuing later) = h
rank_kept drains stage rank p _ h (IssuesWhole call t access items after issuing once touches) = h
rank_kept drains stage rank p _ h (Draws state new) = h
rank_kept drains stage rank p _ h (DeliversOne at one items after there due touches) = h

-- ---- lives

-- a step at the board from what is known, with others' entries in between
look_holds : (drains : Bool) (stage : Stage) (rank : ℕ) (P : Point → Type 0) → KeepsIn drains stage P →
    (agent : Agent) (known others puts : List Put) (lows after : Lows) → agent.rank ≡ rank →
    P (point agent (rows_put known) lows) → AreOthers rank others →
    LooksAfter stage agent (known ++ others) lows puts after →
    P (point (board_step stage agent (rows_put (known ++ others))).agent (rows_put ((known ++ others) ++ puts)) after)
look_holds drains stage rank P keeps agent known others puts lows after mine h apart looks =
    let before = rows_put (known ++ others) in
    let step = board_step stage agent before in
    let theirs : AllByRecursion (λ (row : Row). row.rank ≢ agent.rank) (rows_put others) =
    subst (λ r. AllByRecursion (λ (row : Row). row.rank ≢ r) (rows_put others)) (sym mine)
    (others_rows rank others apart) in
    let learnt : P (point agent before lows) =
    subst (λ (rows : List Row). P (point agent rows lows)) (sym (rows_joined known others))
    (keeps (point agent (rows_put known) lows) _ h (Learns (rows_put others) theirs)) in
    let looked : P (point_at step lows) = path_keeps drains stage P keeps (point agent before lows)
    (point_at step lows) learnt (look_path drains stage agent before lows looks.tries) in
    let moved : P (point step.agent (rows_put ((known ++ others) ++ puts)) lows) = subst
    (λ (rows : List Row). P (point step.agent rows lows)) looks.rows looked in
    keeps (point step.agent (rows_put ((known ++ others) ++ puts)) lows) _ moved
    (Rises after (put_rises stage.script.ranks (known ++ others) lows puts after looks.fronts))

pub life_holds : (drains : Bool) (stage : Stage) (seed rank : ℕ) (P : Point → Type 0) → KeepsIn drains stage P →
    P (point (new_agent stage seed rank) [] first_lows) →
    (agent : Agent) (known : List Put) (lows : Lows) → Lives stage seed rank agent known lows →
    P (point agent (rows_put known) lows) × (agent.rank ≡ rank)
life_holds drains stage seed rank P keeps h _ _ _ BeginsLife = (h, refl)
life_holds drains stage seed rank P keeps h _ _ _ (Looks agent known others puts lows after life apart looks) =
    let old = life_holds drains stage seed rank P keeps h agent known lows life in (
      look_holds drains stage rank P keeps agent known others puts lows after old.1 old.0 apart looks,
      look_holds drains stage rank (IsOf rank) (rank_kept drains stage rank) agent known others puts lows after old.1
          old.1 apart
          looks,
    )
life_holds drains stage seed rank P keeps h _ _ _ (Steps agent next known lows after life tries made) =
    let old = life_holds drains stage seed rank P keeps h agent known lows life in
    let path = step_path drains stage agent next (rows_put known) lows after made in (
      path_keeps drains stage P keeps (point agent (rows_put known) lows) (point next (rows_put known) after) old.0
          path,
      path_keeps drains stage (IsOf rank) (rank_kept drains stage rank) (point agent (rows_put known) lows)
          (point next (rows_put known) after) old.1 path,
    )

-- ---- ranks that have ended

-- a rank that has ended is past all its calls, and nothing is pending
pub record IsOver (stage : Stage) (agent : Agent) : Type 0 where
  pub past : next_call stage agent ≡ None
  pub empty : agent.pending ≡ []

abbrev pub EndsOver : Stage → Point → Type 0
EndsOver stage p = p.agent.ended ≡ true → IsOver stage p.agent

not_over : (stage : Stage) (p : Point) (call : Call) (R : Type 0) → EndsOver stage p → p.agent.ended ≡ true →
    next_call stage p.agent ≡ Some call → R
not_over stage p call R h e here = let over = (h e).past in absurd (cc (sym over ∙ here))

ended_same : (stage : Stage) (p : Point) (call : Call) (step : _) (after : Agent → Agent) (next : Agent) →
    Entering stage p.agent call step after →
    ((after next).ended ≡ next.ended) × (next_call stage p.agent ≡ Some call)
ended_same stage p call _ _ next (OnlyEntry begins course) = (refl, begins.here)
ended_same stage p call _ _ next (LookUp begins course) = (refl, begins.here)
ended_same stage p call _ _ next (Arriving begins course) = (refl, begins.here)
ended_same stage p call _ _ next (Leaving here inside none) = (refl, here)

pub over_kept : (stage : Stage) → Keeps stage (EndsOver stage)
over_kept stage p _ h (Learns more others) = h
over_kept stage p _ h (Rises after rise) = h
over_kept stage p _ h (Ends past empty going) = λ e. record { past = past; empty = empty }
over_kept stage p _ h (RefusesAlone call class here new refuses) = λ e. not_over stage p call _ h e here
over_kept stage p _ h (IsRefused call class begins has answer) = λ e. not_over stage p call _ h e begins.here
over_kept stage p _ h (Tests call begins course answer) = λ e. not_over stage p call _ h e begins.here
over_kept stage p _ h (Passes call item begins plain) = λ e. not_over stage p call _ h e begins.here
over_kept stage p _ h (Enters call step after entering answer) =
    λ e. let same = ended_same stage p call step after _ entering in not_over stage p call _ h (sym same.0 ∙ e) same.1
over_kept stage p _ h (Issues call t access issuing later) = λ e. not_over stage p call _ h e issuing.here
over_kept stage p _ h (IssuesWhole call t access items after issuing once touches) = λ e.
    not_over stage p call _ h e issuing.here
over_kept stage p _ h (Draws state new) = λ e. let over = h e in record { past = over.past; empty = over.empty }
over_kept stage p _ h (DeliversOne at one items after there due touches) =
    λ e. let over = (h e).empty in absurd (cc (sym (ap (λ (pending : List PendingAccess). slice_get pending at) over)
    ∙ there))

-- ---- after the last step

-- a rank that stops has no open look-up
stops_closed : (stage : Stage) (agent : Agent) (rows : List Row) (lows : Lows) →
    EndsOver stage (point agent rows lows) → Stops stage agent rows → IsClosed stage agent
stops_closed stage agent rows lows over (inl ended) call here inside = let past = (over ended).past in absurd
    (cc (sym past ∙ here))
stops_closed stage agent rows lows over (inr waits) call here inside =
    is_none_of (transfer_of call) (tries_if agent.entered inside
    (ap (λ (o : Option Call). option_map_or (λ c. cond agent.entered (is_none (transfer_of c))
    (begins_with_entry stage agent c)) o false) (sym here) ∙ waits.0))
  where
    tries_if : (b : Bool) → b ≡ true → cond b (is_none (transfer_of call)) (begins_with_entry stage agent call)
        ≡ true → is_none (transfer_of call) ≡ true
    tries_if true e t = t
    tries_if false e t = absurd (cc e)

closed_delivered : (stage : Stage) (now next : Agent) (low after : Lows) (o : Option PendingAccess) →
    IsClosed stage now → IsDelivered stage now 0 o low next after → IsClosed stage next
closed_delivered stage now next low after None closed h = subst (IsClosed stage) (sym h.0) closed
closed_delivered stage now next low after (Some one) closed h = subst (IsClosed stage) (sym h.2) closed

drains_hold : (stage : Stage) (P : Point → Type 0) → Keeps stage P → (rows : List Row) (agent : Agent) (lows : Lows) →
    IsClosed stage agent → P (point agent rows lows) →
    (last : Agent) (low : Lows) → Drains stage agent lows last low → P (point last rows low) × IsClosed stage last
drains_hold stage P keeps rows agent lows closed h _ _ StaysDry = (h, closed)
drains_hold stage P keeps rows agent lows closed h _ _ (Drained now next low after drains made) =
    let old = drains_hold stage P keeps rows agent lows closed h now low drains in
    let due : IsDue true stage now 0 = record {
      closed = old.1;
      free = first_is_free now.pending;
      reason = IsDrained refl refl;
    } in (
      path_keeps true stage P keeps (point now rows low) (point next rows after) old.0
          (delivery_path true stage now next rows low after 0 due (slice_get now.pending 0) refl made),
      closed_delivered stage now next low after (slice_get now.pending 0) old.1 made,
    )

-- the point at which a rank stops, after all entries
abbrev pub stopped_point : (stage : Stage) (seed rank : ℕ) (puts : List Put) (agent : Agent) →
    HasLived stage seed rank puts agent → Point
stopped_point stage seed rank puts agent lived = point lived.stopped (rows_put puts) lived.lows

-- the point after its whole history
abbrev pub last_point : (stage : Stage) (seed rank : ℕ) (puts : List Put) (agent : Agent) →
    HasLived stage seed rank puts agent → Point
last_point stage seed rank puts agent lived = point agent (rows_put puts) lived.last

pub stops_holding : (drains : Bool) (stage : Stage) (seed rank : ℕ) (P : Point → Type 0) → KeepsIn drains stage P →
    P (point (new_agent stage seed rank) [] first_lows) →
    (puts : List Put) (agent : Agent) (lived : HasLived stage seed rank puts agent) →
    P (stopped_point stage seed rank puts agent lived) × (lived.stopped.rank ≡ rank)
stops_holding drains stage seed rank P keeps h puts agent lived =
    let old = life_holds drains stage seed rank P keeps h lived.stopped lived.known lived.lows lived.life in
    let theirs : AllByRecursion (λ (row : Row). row.rank ≢ lived.stopped.rank) (rows_put lived.later) =
    subst (λ r. AllByRecursion (λ (row : Row). row.rank ≢ r) (rows_put lived.later)) (sym old.1)
    (others_rows rank lived.later lived.apart) in (
      subst (λ (rows : List Row). P (point lived.stopped rows lived.lows))
          (sym (ap rows_put lived.entries ∙ rows_joined lived.known lived.later))
          (keeps (point lived.stopped (rows_put lived.known) lived.lows) _ old.0
          (Learns (rows_put lived.later) theirs)),
      old.1,
    )

-- what every move keeps holds at the end, where no look-up is open
pub lived_holds : (stage : Stage) (seed rank : ℕ) (P : Point → Type 0) → Keeps stage P →
    P (point (new_agent stage seed rank) [] first_lows) →
    (puts : List Put) (agent : Agent) (lived : HasLived stage seed rank puts agent) →
    P (last_point stage seed rank puts agent lived) × IsClosed stage agent
lived_holds stage seed rank P keeps h puts agent lived =
    let stopped = stops_holding true stage seed rank P keeps h puts agent lived in
    let over = stops_holding true stage seed rank (EndsOver stage) (over_kept stage)
    (λ e. absurd (cc e)) puts agent lived in
    let closed = stops_closed stage lived.stopped (rows_put puts) lived.lows over.0 lived.stops in
    drains_hold stage P keeps (rows_put puts) lived.stopped lived.lows closed stopped.0 agent lived.last lived.drains

-- the rank of the agent at the end
pub lived_rank : (stage : Stage) (seed rank : ℕ) (puts : List Put) (agent : Agent) →
    HasLived stage seed rank puts agent → agent.rank ≡ rank
lived_rank stage seed rank puts agent lived = (lived_holds stage seed rank (IsOf rank)
    (rank_kept true stage rank) refl puts agent lived).0

-- a rank that has ended is over
pub lived_over : (stage : Stage) (seed rank : ℕ) (puts : List Put) (agent : Agent) →
    HasLived stage seed rank puts agent → agent.ended ≡ true → IsOver stage agent
lived_over stage seed rank puts agent lived = (lived_holds stage seed rank (EndsOver stage) (over_kept stage)
    (λ e. absurd (cc e)) puts agent lived).0
