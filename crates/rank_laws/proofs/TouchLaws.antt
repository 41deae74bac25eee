-- What the law of a rank's log says of its touches, at the end of the rank's history.
use Rattle.std.proofs.Common.{◌≡◌, ℕ, zero, suc, inl, inr, true, List, [], length, Option, Some, None, refl, ap, subst}
use Rattle.std.specs.Prelude.{slice_get}
use Rattle.std.specs.List.{AllByRecursion}
use Rattle.list_laws.proofs.Members.{Among}
use Rattle.rma_types.specs.declared.accesses.Access.{Access}
use Rattle.rma_types.specs.declared.schedules.Delay.{Delay}
use Rattle.rma_types.specs.declared.schedules.Delay.TheVariants.{None as NoDelay, End as EndDelay}
use Rattle.rma_types.specs.declared.schedules.Delay.TheVariants.{Seeded as SeededDelay}
use Rattle.rma_record.specs.declared.items.Item.{Item}
use Rattle.rma_record.specs.declared.items.Item.TheVariants.{Issue, Null, Touch, Flush, Request, Entry, Tested, Refused}
use Rattle.rma_record.specs.declared.items.Item.TheVariants.{Ended}
use Rattle.board_rules.specs.Entries.{Row}
use Rattle.lawful_runs.specs.DelayLaw.{KeepsDelay}
use Rattle.lawful_runs.specs.Stages.{Stage, RankOfRun, calls_at, calls_here}
use Rattle.lawful_runs.specs.TouchLaw.{IsTouchedWhole, HasItsIssue, FollowsDirectly, IsLocalDirect, IsAwaitedWhole}
use Rattle.lawful_runs.specs.TouchLaw.{issued_in, is_local}
use Rattle.rank_laws.proofs.AwaitMoves.{KeepsAwaited, awaited_kept}
use Rattle.rank_laws.proofs.Awaiting.{rank_of}
use Rattle.rank_laws.proofs.DirectMoves.{StandsAfterIssue, KeepsDirect, direct_kept}
use Rattle.rank_laws.proofs.Inductions.{lived_holds}
use Rattle.rank_laws.proofs.Lists.{numbers_each}
use Rattle.rank_laws.proofs.Pendings.{HasTouches, IsSettled, no_touches}
use Rattle.rank_laws.proofs.Touching.{each_issued}
use Rattle.rank_laws.proofs.TouchMoves.{KeepsTouches}
use Rattle.rank_laws.specs.Fronts.{Put}
use Rattle.rank_laws.specs.Lawful.{HasLawfulTouches}
use Rattle.rank_laws.specs.Lives.{HasLived}
use Rattle.rank_rules.specs.declared.pending.PendingAccess.{PendingAccess}
use Rattle.step_runs.specs.Agents.{Agent, new_agent}
use Rattle.step_runs.specs.DataSteps.{is_at_once}

pub new_touches : (stage : Stage) (seed rank : ℕ) → KeepsTouches stage (new_agent stage seed rank)
new_touches stage seed rank = record { has = no_touches stage.layout (calls_at stage rank); undelayed = λ e. refl }

new_direct : (stage : Stage) (seed rank : ℕ) → KeepsDirect stage (new_agent stage seed rank)
new_direct stage seed rank = record {
  touches = new_touches stage seed rank;
  after = λ index issue element cell place bits e. absurd (cc e);
  direct = λ index one e once. absurd (cc e);
}

none_awaited : (here : RankOfRun) (index : ℕ) → IsAwaitedWhole here [] index
none_awaited here zero = tt
none_awaited here (suc index) = tt

pub new_awaited : (stage : Stage) (seed rank : ℕ) → KeepsAwaited stage (new_agent stage seed rank)
new_awaited stage seed rank = record {
  touches = new_touches stage seed rank;
  requests = λ rows. refl;
  begun = λ e. absurd (cc e);
  awaited = λ rows index. none_awaited (rank_of stage rank rows) index;
}

-- what is at an index stands after its Issue, if it is a touch
its_issue : (here : RankOfRun) (log : List Item) → StandsAfterIssue (calls_here here) log →
    (index : ℕ) (o : Option Item) → slice_get log index ≡ o → HasItsIssue here log index
its_issue here log h index None e = rw e tt
its_issue here log h index (Some (Touch issue element cell place bits)) e = rw e
    (h index issue element cell place bits e)
its_issue here log h index (Some (Issue number access)) e = rw e tt
its_issue here log h index (Some (Null number)) e = rw e tt
its_issue here log h index (Some (Flush number)) e = rw e tt
its_issue here log h index (Some (Request number)) e = rw e tt
its_issue here log h index (Some (Entry number place step)) e = rw e tt
its_issue here log h index (Some (Tested number seen)) e = rw e tt
its_issue here log h index (Some (Refused number class seen)) e = rw e tt
its_issue here log h index (Some Ended) e = rw e tt

-- where nothing is pending each access is touched whole
all_whole : (here : RankOfRun) (log : List Item) (pending : List PendingAccess) → pending ≡ [] →
    HasTouches here.stage.layout (calls_here here) log pending →
    AllByRecursion (IsTouchedWhole here log) (issued_in here log)
all_whole here log pending empty has = each_issued (calls_here here) (IsTouchedWhole here log) log
    (λ index one e. whole one (has.each index one e))
  where
    whole : (one : PendingAccess) → IsSettled here.stage.layout (calls_here here) log pending one →
        IsTouchedWhole here log one
    whole one (inl is) = is
    whole one (inr waits) = absurd (subst (Among one) empty waits.1)

local_at_once : (d : Delay) (access : Access) → is_local access.kind ≡ true → is_at_once d access ≡ true
local_at_once NoDelay access e = refl
local_at_once EndDelay access e = e
local_at_once SeededDelay access e = e

-- the clauses on touches of the law of a rank's log, for any delay, whatever the entries of the run
pub lawful_touches : (stage : Stage) (seed rank : ℕ) (puts : List Put) (agent : Agent) (rows : List Row) →
    HasLived stage seed rank puts agent → agent.rank ≡ rank →
    HasLawfulTouches (rank_of stage rank rows) agent.log
lawful_touches stage seed rank puts agent rows lived mine = subst
    (λ r. HasLawfulTouches (rank_of stage r rows) agent.log) mine (record {
      touches = all_whole here agent.log agent.pending lived.nothing_pending direct.touches.has;
      issues = numbers_each (HasItsIssue here agent.log) (λ index. its_issue here agent.log direct.after index
          (slice_get agent.log index) refl) 0 (length agent.log);
      local_direct = each_issued (calls_here here) (IsLocalDirect here agent.log) agent.log
          (λ index one e is. direct.direct index one e (local_at_once stage.delay one.access is));
      order = direct.touches.has.order;
      awaited = numbers_each (IsAwaitedWhole here agent.log) (awaited.awaited rows) 0 (length agent.log);
    })
  where
    here : RankOfRun
    here = rank_of stage agent.rank rows

    direct : KeepsDirect stage agent
    direct = (lived_holds stage seed rank (λ p. KeepsDirect stage p.agent) (direct_kept stage)
        (new_direct stage seed rank) puts agent lived).0

    awaited : KeepsAwaited stage agent
    awaited = (lived_holds stage seed rank (λ p. KeepsAwaited stage p.agent) (awaited_kept stage)
        (new_awaited stage seed rank) puts agent lived).0

-- where nothing is delayed each access is touched directly after its Issue; with delay seeded nothing is asked
pub keeps_none : (stage : Stage) (seed rank : ℕ) (puts : List Put) (agent : Agent) (rows : List Row) →
    HasLived stage seed rank puts agent → agent.rank ≡ rank → stage.delay ≡ NoDelay →
    KeepsDelay NoDelay (rank_of stage rank rows) agent.log
keeps_none stage seed rank puts agent rows lived mine e = subst
    (λ r. KeepsDelay NoDelay (rank_of stage r rows) agent.log) mine
    (each_issued (calls_at stage agent.rank) (FollowsDirectly (rank_of stage agent.rank rows) agent.log) agent.log
    (λ index one issued. direct.direct index one issued (ap (λ d. is_at_once d one.access) e)))
  where
    direct : KeepsDirect stage agent
    direct = (lived_holds stage seed rank (λ p. KeepsDirect stage p.agent) (direct_kept stage)
        (new_direct stage seed rank) puts agent lived).0
