-- The touches of a log that goes on.
use Rattle.std.proofs.Common.{◌≡◌, ℕ, ◌+◌, ◌<◌, Bool, true, false, cond, List, [], ◌∷◌, ◌++◌, length, Option, Some}
use Rattle.std.proofs.Common.{None, refl, sym, ◌∙◌, ap, subst, arith, append-nil, length-append}
use Rattle.std.specs.Prelude.{nat_lt}
use Rattle.std.specs.List.{AllByRecursion}
use Rattle.std.specs.Option.{option_map_or}
use Rattle.std.proofs.lemmas.Grind.{flat_map-append}
use Rattle.list_laws.proofs.Each.{each_weaker, each_append, each_front, each_back}
use Rattle.rma_types.specs.declared.accesses.Access.{Access}
use Rattle.rma_types.specs.declared.accesses.Id.{Id}
use Rattle.rma_types.specs.declared.calls.Call.{Call}
use Rattle.rma_types.specs.declared.scripts.Layout.{Layout}
use Rattle.rma_record.specs.declared.items.Item.{Item}
use Rattle.rma_record.specs.declared.items.Item.TheVariants.{Issue, Null, Touch, Flush, Request, Entry, Tested, Refused}
use Rattle.rma_record.specs.declared.items.Item.TheVariants.{Ended}
use Rattle.rma_types.specs.declared.actions.Transfer.{Transfer}
use Rattle.lawful_runs.specs.Accesses.{Touching, touching_by, touches_among, change_made, issued_at, issued_by}
use Rattle.lawful_runs.specs.Accesses.{transfer_at}
use Rattle.lawful_runs.specs.Items.{is_touch}
use Rattle.lawful_runs.specs.Logs.{Named, named_from, named_in}
use Rattle.lawful_runs.specs.Stages.{Stage, calls_at}
use Rattle.lawful_runs.specs.TouchLaw.{issue_touched, issues_touched}
use Rattle.lawful_runs.proofs.LogLaws.{named_joined}
use Rattle.rank_laws.proofs.Lists.{get_rest}
use Rattle.rank_laws.proofs.Touching.{IsTouchOf, issues_joined, issues_plain, issues_of_touches, issued_front}
use Rattle.rank_laws.proofs.Touching.{issued_inside, issued_still}
use Rattle.rank_rules.specs.declared.pending.PendingAccess.{PendingAccess}
use Rattle.step_runs.specs.Agents.{Agent}
use Rattle.step_runs.specs.DataSteps.{made_pending}
pub use Rattle.step_histories.specs.LogTouches.{touches_at, IsIssuedIn, HasIssues}

-- ---- touches in a longer log

-- a touch is the same in a longer log
touching_still : (memory : Layout) (calls : List Call) (log more : List Item) (id : Id) (item : Item) →
    AllByRecursion (λ n. n < length log) (issue_touched item) →
    touching_by memory calls (log ++ more) id item ≡ touching_by memory calls log id item
touching_still memory calls log more id (Touch issue element cell place bits) below =
    ap (λ (o : Option PendingAccess). (let touch : Touching = record {
      id = id;
      issue = issue;
      element = element;
      cell = cell;
      place = place;
      bits = bits;
      change = option_map_or (λ one. change_made memory calls one element) o None;
    } in touch) ∷ []) (issued_front calls log more issue below.0)
touching_still memory calls log more id (Issue number access) below = refl
touching_still memory calls log more id (Null number) below = refl
touching_still memory calls log more id (Flush number) below = refl
touching_still memory calls log more id (Request number) below = refl
touching_still memory calls log more id (Entry number place step) below = refl
touching_still memory calls log more id (Tested number seen) below = refl
touching_still memory calls log more id (Refused number class seen) below = refl
touching_still memory calls log more id Ended below = refl

among_still : (memory : Layout) (calls : List Call) (log more : List Item) (rank index : ℕ) (items : List Item) →
    AllByRecursion (λ n. n < length log) (issues_touched items) →
    touches_among memory calls (log ++ more) (named_from rank index items) ≡
    touches_among memory calls log (named_from rank index items)
among_still memory calls log more rank index [] below = refl
among_still memory calls log more rank index (item ∷ items) below =
    let P : ℕ → Type 0 = λ n. n < length log in
    let id : Id = record { rank = rank; index = index } in
    let first = touching_still memory calls log more id item
    (each_front P (issue_touched item) (issues_touched items) below) in
    let rest = among_still memory calls log more rank (index + 1) items
    (each_back P (issue_touched item) (issues_touched items) below) in
    ap (λ front. front ++ touches_among memory calls (log ++ more) (named_from rank (index + 1) items)) first
    ∙ ap (λ back. touching_by memory calls log id item ++ back) rest

-- the touches of a log and of what follows it
pub log_grows : (memory : Layout) (calls : List Call) (rank : ℕ) (log items : List Item) →
    AllByRecursion (λ n. n < length log) (issues_touched log) →
    touches_among memory calls (log ++ items) (named_in rank (log ++ items)) ≡
    touches_among memory calls log (named_in rank log)
    ++ touches_among memory calls (log ++ items) (named_from rank (0 + length log) items)
log_grows memory calls rank log items below =
    let touching = touches_among memory calls (log ++ items) in
    ap touching (named_joined rank 0 log items)
    ∙ flat_map-append (λ (one : Named). touching_by memory calls (log ++ items) one.id one.item) (named_from rank 0 log)
    (named_from rank (0 + length log) items)
    ∙ ap (λ front. front ++ touching (named_from rank (0 + length log) items))
    (among_still memory calls log items rank 0 log below)

-- ---- an item that is no touch

not_touching : (memory : Layout) (calls : List Call) (log : List Item) (id : Id) (item : Item) →
    is_touch item ≡ false → touching_by memory calls log id item ≡ []
not_touching memory calls log id (Touch issue element cell place bits) e = absurd (cc e)
not_touching memory calls log id (Issue number access) e = refl
not_touching memory calls log id (Null number) e = refl
not_touching memory calls log id (Flush number) e = refl
not_touching memory calls log id (Request number) e = refl
not_touching memory calls log id (Entry number place step) e = refl
not_touching memory calls log id (Tested number seen) e = refl
not_touching memory calls log id (Refused number class seen) e = refl
not_touching memory calls log id Ended e = refl

-- the rank went on without a touch
pub record IsPlain (stage : Stage) (rank : ℕ) (agent next : Agent) : Type 0 where
  pub mine : next.rank ≡ agent.rank
  pub touches : touches_at stage rank next ≡ touches_at stage rank agent
  pub issues : HasIssues stage rank next

pub plain_same : (stage : Stage) (rank : ℕ) (agent next : Agent) → HasIssues stage rank agent →
    next.rank ≡ agent.rank → next.log ≡ agent.log → next.pending ≡ agent.pending → IsPlain stage rank agent next
plain_same stage rank agent next has mine log pending = record {
  mine = mine;
  touches = ap (λ l. touches_among stage.layout (calls_at stage rank) l (named_in rank l)) log;
  issues = record {
    issued = subst (λ l. AllByRecursion (IsIssuedIn stage rank l) next.pending) (sym log)
        (subst (AllByRecursion (IsIssuedIn stage rank agent.log)) (sym pending) has.issued);
    below = subst (λ (l : List Item). AllByRecursion (λ n. n < length l) (issues_touched l)) (sym log) has.below;
  };
}

below_more : (log : List Item) (item : Item) → is_touch item ≡ false →
    AllByRecursion (λ n. n < length log) (issues_touched log) →
    AllByRecursion (λ n. n < length (log ++ item ∷ [])) (issues_touched (log ++ item ∷ []))
below_more log item plain below =
    let long = length-append log (item ∷ []) in
    subst (AllByRecursion (λ n. n < length (log ++ item ∷ []))) (sym (issues_plain log item plain))
    (each_weaker (λ n. n < length log) (λ n. n < length (log ++ item ∷ [])) (λ n less. omega arith)
    (issues_touched log) below)

item_touches : (stage : Stage) (rank : ℕ) (agent : Agent) (item : Item) → is_touch item ≡ false →
    HasIssues stage rank agent →
    (let log = agent.log ++ item ∷ [] in
    touches_among stage.layout (calls_at stage rank) log (named_in rank log) ≡ touches_at stage rank agent)
item_touches stage rank agent item plain has =
    let log = agent.log ++ item ∷ [] in
    let calls = calls_at stage rank in
    log_grows stage.layout calls rank agent.log (item ∷ []) has.below
    ∙ ap (λ back. touches_at stage rank agent ++ (back ++ [])) (not_touching stage.layout calls log
    (record { rank = rank; index = 0 + length agent.log }) item plain)
    ∙ append-nil (touches_at stage rank agent)

pub plain_item : (stage : Stage) (rank : ℕ) (agent next : Agent) (item : Item) → HasIssues stage rank agent →
    is_touch item ≡ false → next.rank ≡ agent.rank → next.log ≡ agent.log ++ item ∷ [] →
    next.pending ≡ agent.pending → IsPlain stage rank agent next
plain_item stage rank agent next item has plain mine log pending = record {
  mine = mine;
  touches = ap (λ l. touches_among stage.layout (calls_at stage rank) l (named_in rank l)) log
      ∙ item_touches stage rank agent item plain has;
  issues = record {
    issued = subst (λ l. AllByRecursion (IsIssuedIn stage rank l) next.pending) (sym log)
        (subst (AllByRecursion (IsIssuedIn stage rank (agent.log ++ item ∷ []))) (sym pending)
        (each_weaker (IsIssuedIn stage rank agent.log) (IsIssuedIn stage rank (agent.log ++ item ∷ []))
        (λ one is. issued_still (calls_at stage rank) agent.log (item ∷ []) one.index one is) agent.pending
        has.issued));
    below = subst (λ (l : List Item). AllByRecursion (λ n. n < length l) (issues_touched l)) (sym log)
        (below_more agent.log item plain has.below);
  };
}

-- an Issue, whose access is pending if it has bytes
pub plain_issue : (stage : Stage) (rank : ℕ) (agent next : Agent) (access : Access) (t : Transfer) →
    HasIssues stage rank agent → transfer_at (calls_at stage rank) agent.at ≡ Some t →
    (let one : PendingAccess = record {
      index = length agent.log;
      number = agent.at;
      access = access;
      fetches = t.fetches;
    } in
    next.rank ≡ agent.rank → next.log ≡ agent.log ++ Issue agent.at access ∷ [] →
    next.pending ≡ agent.pending ++ made_pending one → IsPlain stage rank agent next)
plain_issue stage rank agent next access t has moves mine log pending = record {
  mine = mine;
  touches = ap (λ l. touches_among stage.layout (calls_at stage rank) l (named_in rank l)) log
      ∙ item_touches stage rank agent item refl has;
  issues = record {
    issued = subst (λ l. AllByRecursion (IsIssuedIn stage rank l) next.pending) (sym log)
        (subst (AllByRecursion (IsIssuedIn stage rank longer)) (sym pending)
        (each_append (IsIssuedIn stage rank longer) agent.pending (made_pending one)
        (each_weaker (IsIssuedIn stage rank agent.log) (IsIssuedIn stage rank longer)
        (λ other is. issued_still (calls_at stage rank) agent.log (item ∷ []) other.index other is) agent.pending
        has.issued) (new (nat_lt 0 access.len))));
    below = subst (λ (l : List Item). AllByRecursion (λ n. n < length l) (issues_touched l)) (sym log)
        (below_more agent.log item refl has.below);
  };
}
  where
    item : Item
    item = Issue agent.at access

    longer : List Item
    longer = agent.log ++ item ∷ []

    one : PendingAccess
    one = record { index = length agent.log; number = agent.at; access = access; fetches = t.fetches }

    its : IsIssuedIn stage rank longer one
    its = ap (λ (o : Option Item). option_map_or (issued_by (calls_at stage rank) (length agent.log)) o None)
        (get_rest agent.log (item ∷ []) (length agent.log) 0 (omega arith))
        ∙ ap (λ (o : Option Transfer). option_map_or (λ (u : Transfer). (let made : PendingAccess = record {
          index = length agent.log;
          number = agent.at;
          access = access;
          fetches = u.fetches;
        } in Some made)) o None) moves

    new : (b : Bool) → AllByRecursion (IsIssuedIn stage rank longer) (cond b (one ∷ []) [])
    new true = (its, tt)
    new false = tt

-- ---- touches of one Issue

pub below_touches : (stage : Stage) (rank : ℕ) (log items : List Item) (one : PendingAccess) →
    IsIssuedIn stage rank log one → AllByRecursion (IsTouchOf one.index) items →
    AllByRecursion (λ n. n < length log) (issues_touched log) →
    AllByRecursion (λ n. n < length (log ++ items)) (issues_touched (log ++ items))
below_touches stage rank log items one is own below =
    let long = length-append log items in
    let less = (issued_inside (calls_at stage rank) log one.index one is).0 in
    subst (AllByRecursion (λ n. n < length (log ++ items))) (sym (issues_joined log items))
    (each_append (λ n. n < length (log ++ items)) (issues_touched log) (issues_touched items)
    (each_weaker (λ n. n < length log) (λ n. n < length (log ++ items)) (λ n h. omega arith) (issues_touched log) below)
    (each_weaker (λ n. n ≡ one.index) (λ n. n < length (log ++ items)) (λ n h. omega arith) (issues_touched items)
    (issues_of_touches one.index items own)))
