-- The theorems on assembled runs.
use Rattle.std.proofs.Common.{List, length, sym, subst, refl}
use Rattle.std.specs.List.{AllByRecursion}
use Rattle.rma_types.specs.declared.schedules.Delay.TheVariants.{None as NoDelay}
use Rattle.rma_record.specs.declared.items.Item.{Item}
use Rattle.call_rules.specs.Pieces.{numbers_from}
use Rattle.lawful_runs.specs.DelayLaw.{KeepsDelay}
use Rattle.lawful_runs.specs.LawfulRun.{rank_in}
use Rattle.lawful_runs.specs.Logs.{rows_of}
use Rattle.lawful_runs.specs.Stages.{stage_of}
use Rattle.lawful_runs.specs.TouchLaw.{IsLookUpFollowed}
use Rattle.rank_laws.proofs.Inductions.{lived_rank}
use Rattle.rank_laws.proofs.LookUps.{look_ups_followed}
use Rattle.rank_laws.proofs.Runs.{rank_there}
use Rattle.rank_laws.proofs.TouchLaws.{lawful_touches, keeps_none}
use Rattle.rank_laws.specs.Lawful.{HasLawfulTouches, AssembledRunsFollowLookUps, AssembledRunsTouchLawfully}
use Rattle.rank_laws.specs.Lawful.{UndelayedRunsTouchDirectly}

pub touches_are_lawful : AssembledRunsTouchLawfully
touches_are_lawful script delay seed run is rank inside =
    let stage = stage_of script delay in
    let there = rank_there script delay seed run is rank inside in
    subst (HasLawfulTouches (rank_in script delay run rank)) (sym there.log)
    (lawful_touches stage seed rank is.puts there.agent (rows_of script run) there.lived
    (lived_rank stage seed rank is.puts there.agent there.lived))

pub undelayed_is_direct : UndelayedRunsTouchDirectly
undelayed_is_direct script seed run is rank inside =
    let stage = stage_of script NoDelay in
    let there = rank_there script NoDelay seed run is rank inside in
    subst (KeepsDelay NoDelay (rank_in script NoDelay run rank)) (sym there.log)
    (keeps_none stage seed rank is.puts there.agent (rows_of script run) there.lived
    (lived_rank stage seed rank is.puts there.agent there.lived) refl)

pub look_ups_are_followed : AssembledRunsFollowLookUps
look_ups_are_followed script delay seed run is rank inside =
    let stage = stage_of script delay in
    let there = rank_there script delay seed run is rank inside in
    subst (λ (log : List Item). AllByRecursion (IsLookUpFollowed (rank_in script delay run rank) log)
    (numbers_from 0 (length log))) (sym there.log)
    (look_ups_followed stage seed rank is.puts there.agent (rows_of script run) there.lived
    (lived_rank stage seed rank is.puts there.agent there.lived))
