use Rattle.std.proofs.Common.{sym, rules, ltb}
use Rattle.std.proofs.lemmas.List.Sorted.{IsPartitionPoint-from_clause, IsPartitionedBy-ltb}
use Rattle.rma_types.specs.declared.scripts.CallBase.{CallBase}
use Rattle.sync_board.proofs.Bases.{IsFirst, searched_end, searched_past, searched_there}
use Rattle.sync_board.proofs.layouts.search_base.Goals as goal

pub returns-then-one-number : goal.returns-then-one-number
returns-then-one-number c =
    let first : IsFirst c.args.bases.now c.args.number c.partition_point-at.result =
    IsPartitionPoint-from_clause (λ (one : CallBase). ltb one.call c.args.number) c.args.bases.now
    c.partition_point-at.result c.partition_point-at.ensures.partitioned
    (IsPartitionedBy-ltb (λ (one : CallBase). one.call) c.args.bases.now c.args.number c.requires)
    (λ a r f' called. search rules) in
    sym (searched_there c.args.bases.now c.args.number c.partition_point-at.result (record { call = 0; base = 0 }) first
    c.if-at-bases.true c.if-one-number.true)

pub returns-else-one-number : goal.returns-else-one-number
returns-else-one-number c =
    let first : IsFirst c.args.bases.now c.args.number c.partition_point-at.result =
    IsPartitionPoint-from_clause (λ (one : CallBase). ltb one.call c.args.number) c.args.bases.now
    c.partition_point-at.result c.partition_point-at.ensures.partitioned
    (IsPartitionedBy-ltb (λ (one : CallBase). one.call) c.args.bases.now c.args.number c.requires)
    (λ a r f' called. search rules) in
    sym (searched_past c.args.bases.now c.args.number c.partition_point-at.result (record { call = 0; base = 0 }) first
    c.requires c.if-at-bases.true c.if-one-number.false)

pub returns-else-at-bases : goal.returns-else-at-bases
returns-else-at-bases c =
    let first : IsFirst c.args.bases.now c.args.number c.partition_point-at.result =
    IsPartitionPoint-from_clause (λ (one : CallBase). ltb one.call c.args.number) c.args.bases.now
    c.partition_point-at.result c.partition_point-at.ensures.partitioned
    (IsPartitionedBy-ltb (λ (one : CallBase). one.call) c.args.bases.now c.args.number c.requires)
    (λ a r f' called. search rules) in
    sym (searched_end c.args.bases.now c.args.number c.partition_point-at.result (record { call = 0; base = 0 }) first
    c.if-at-bases.false)
