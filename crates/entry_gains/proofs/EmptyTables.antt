-- Empty tables are those of no entries.
use Rattle.std.proofs.Common.{◌≡◌, ℕ, zero, suc, false, [], get_or, replicate, refl, ap, sym, subst, ◌∙◌}
use Rattle.std.specs.Map.{lookup}
use Rattle.std.specs.Prelude.{unwrap_or}
use Rattle.entry_gains.specs.Given.{held_kind}
use Rattle.entry_gains.specs.Ledgers.{HasTables, IsSide, round_key, side_key, start_key}
use Rattle.entry_gains.specs.Given.{meeting_of}
use Rattle.entry_gains.specs.Tables.{idle, lock_eq, lock_key, round_eq, side_eq, start_eq}
use Rattle.entry_gains.specs.declared.ledger.Ledger.{Ledger}

get_or_replicate : {X : Type 0} (n k : ℕ) (x : X) → get_or (replicate n x) k x ≡ x
get_or_replicate zero k x = refl
get_or_replicate (suc n) zero x = refl
get_or_replicate (suc n) (suc k) x = get_or_replicate n k x

idle_is : IsSide [] idle
idle_is = record {
  posted = λ to below. get_or_replicate 16 to 0;
  started = λ to below. get_or_replicate 16 to 0;
  last = λ to below. get_or_replicate 16 to false;
  starts = refl;
  completes = refl;
}

pub tables_none : (ranks : ℕ) (ledger : Ledger) → ledger.rounds.entries ≡ [] → ledger.sides.entries ≡ [] →
    ledger.started.entries ≡ [] → ledger.held.entries ≡ [] → HasTables ranks [] ledger
unfolding held_kind
tables_none ranks ledger rounds sides started held = record {
  rounds = λ window collective rank. ap
      (λ es. unwrap_or (lookup (round_eq (round_key window (meeting_of collective) rank)) es) 0) rounds;
  sides = λ window rank. subst (IsSide [])
      (sym (ap (λ es. unwrap_or (lookup (side_eq (side_key window rank)) es) idle) sides)) idle_is;
  started = λ window rank number to below. ap
      (λ es. get_or (unwrap_or (lookup (start_eq (start_key window rank number)) es) (replicate 16 0)) to 0) started
      ∙ get_or_replicate 16 to 0;
  held = λ window rank target below. ap (λ es. lookup (lock_eq (lock_key (side_key window rank) target)) es) held;
}
