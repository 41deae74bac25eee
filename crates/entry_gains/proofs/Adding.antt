-- The tables after one entry more are those of the entries with it.
use Rattle.std.proofs.Common.{◌≡◌, ℕ, ◌<◌, ◌≤◌, Bool, true, false, ◌&&◌, List, [], ◌∷◌, ◌++◌, length, refl, ap, sym}
use Rattle.std.proofs.Common.{subst, ◌∙◌, arith, Option, Some, None}
use Rattle.std.specs.List.{flat_map}
use Rattle.std.specs.Option.{option_map_or}
use Rattle.rma_types.specs.declared.accesses.Step.{Step}
use Rattle.rma_types.specs.declared.accesses.Step.TheVariants.{Arrive, Leave, One}
use Rattle.rma_types.specs.declared.actions.Action.{Action}
use Rattle.rma_types.specs.declared.actions.Synchronisation.{Synchronisation}
use Rattle.rma_types.specs.declared.actions.Action.TheVariants.{Creates, Frees, Synchronises, Meets as MeetsAll}
use Rattle.rma_types.specs.declared.actions.Synchronisation.TheVariants.{Fences, Posts as PostsTo, Starts as StartsTo}
use Rattle.rma_types.specs.declared.actions.Synchronisation.TheVariants.{Completes as CompletesOne, Waits as WaitsFor}
use Rattle.rma_types.specs.declared.actions.Synchronisation.TheVariants.{Locks as LocksWith, Unlocks as UnlocksOf}
use Rattle.rma_types.specs.declared.actions.Synchronisation.TheVariants.{Flushes, Syncs}
use Rattle.rma_types.specs.Actions.{action_of, synchronisation_in, synchronisation_of}
use Rattle.call_rules.specs.Ranks.{members_of}
use Rattle.board_rules.specs.Entries.{Act, Collective, Creation as CreationOf, Freeing as FreeingOf, Fence as FenceOf}
use Rattle.board_rules.specs.Entries.{Barrier as BarrierOf, collective_in, collective_of, is_arrive, is_collective}
use Rattle.board_rules.specs.Entries.{is_same_collective, synchronisations}
use Rattle.board_rules.specs.Locks.{held_after, held_after_entry, held_locks}
use Rattle.board_rules.specs.Posts.{group_of_start}
use Rattle.entry_gains.specs.Deeds.{IsDeed, IsSynchronisationDeed}
use Rattle.entry_gains.specs.Given.{meeting_of}
use Rattle.entry_gains.specs.Ledgers.{Adds, AddsComplete, AddsLocks, AddsMeeting, HasTables, IsSide, Stays, round_key}
use Rattle.entry_gains.specs.Ledgers.{side_key}
use Rattle.entry_gains.specs.Tables.{side_at}
use Rattle.entry_gains.specs.declared.deeds.Deed.{Deed}
use Rattle.entry_gains.specs.declared.ledger.Ledger.{Ledger}
use Rattle.entry_gains.proofs.DeedKinds.{locks_case, posts_case, starts_case, unlocks_case}
use Rattle.entry_gains.proofs.LockSteps.{locks_kept, locks_set, unlocks_set}
use Rattle.entry_gains.proofs.SideSteps.{complete_side, post_side, start_side}
use Rattle.entry_gains.proofs.TableSteps.{IsQuiet, brought, few_made, sides_kept, sides_set, starts_brought}
use Rattle.entry_gains.proofs.TableSteps.{starts_kept, starts_set}
use Rattle.entry_gains.proofs.RoundSteps.{rounds_kept, rounds_set}

-- an entry that is no arrival
no_arrival : (act : Act) → collective_of act.row.call ≡ None → (collective : Collective) →
    (is_arrive act.row.step && is_collective collective act.row.call) ≡ false
no_arrival act none collective = ap
    (λ o. is_arrive act.row.step && option_map_or (is_same_collective collective) o false) none
    ∙ of (is_arrive act.row.step)
  where
    of : (b : Bool) → (b && false) ≡ false
    of true = refl
    of false = refl

no_step : (act : Act) → is_arrive act.row.step ≡ false → (collective : Collective) →
    (is_arrive act.row.step && is_collective collective act.row.call) ≡ false
no_step act none collective = ap (λ b. b && is_collective collective act.row.call) none

starts_of : (act : Act) (o : Option Synchronisation) → synchronisation_of act.row.call ≡ o →
    starts_brought act ≡ option_map_or (λ s. group_of_start s ++ []) o []
starts_of act None is = ap (λ o. flat_map group_of_start (option_map_or (λ s. s ∷ []) o [])) is
starts_of act (Some s) is = ap (λ o. flat_map group_of_start (option_map_or (λ s. s ∷ []) o [])) is

held_of : (ranks : ℕ) (entries : List Act) (act : Act) (o : Option Synchronisation) →
    synchronisation_of act.row.call ≡ o →
    held_after_entry ranks (held_locks ranks entries) act
    ≡ option_map_or (held_after ranks act.row.rank act.window (held_locks ranks entries)) o
    (held_locks ranks entries)
held_of ranks entries act o is = ap
    (λ o. option_map_or (held_after ranks act.row.rank act.window (held_locks ranks entries)) o
    (held_locks ranks entries)) is

-- nothing is added by an entry that brings no post, start, complete, lock or unlock, and is no arrival
stays_add : (ranks : ℕ) (before after : Ledger) (entries : List Act) (act : Act) (o : Option Synchronisation) →
    synchronisation_of act.row.call ≡ o → IsQuiet o → option_map_or (λ s. group_of_start s ++ []) o [] ≡ [] →
    option_map_or (held_after ranks act.row.rank act.window (held_locks ranks entries)) o (held_locks ranks entries)
    ≡ held_locks ranks entries →
    ((collective : Collective) → (is_arrive act.row.step && is_collective collective act.row.call) ≡ false) →
    Stays before after → HasTables ranks entries before → HasTables ranks (entries ++ act ∷ []) after
stays_add ranks before after entries act o is quiet starts held none stays were = record {
  rounds = rounds_kept before after entries act stays.rounds none were.rounds;
  sides = sides_kept before after entries act stays.sides (subst IsQuiet (sym is) quiet) were.sides;
  started = starts_kept before after entries act stays.started (starts_of act o is ∙ starts) were.started;
  held = locks_kept ranks before after entries act stays.held (held_of ranks entries act o is ∙ held) were.held;
}

-- a collective call
meets_add : (ranks : ℕ) (before after : Ledger) (entries : List Act) (act : Act) (own : Collective)
    (o : Option Synchronisation) (step : Step) → act.row.step ≡ step → collective_of act.row.call ≡ Some own →
    synchronisation_of act.row.call ≡ o → IsQuiet o → option_map_or (λ s. group_of_start s ++ []) o [] ≡ [] →
    option_map_or (held_after ranks act.row.rank act.window (held_locks ranks entries)) o (held_locks ranks entries)
    ≡ held_locks ranks entries → length entries < 4294967295 →
    AddsMeeting before after step (round_key act.window (meeting_of own) act.row.rank) →
    HasTables ranks entries before → HasTables ranks (entries ++ act ∷ []) after
meets_add ranks before after entries act own o Arrive step_is is s_is quiet starts held few adds were = record {
  rounds = rounds_set before after entries act own is (ap is_arrive step_is) few adds.rounds were.rounds;
  sides = sides_kept before after entries act adds.sides (subst IsQuiet (sym s_is) quiet) were.sides;
  started = starts_kept before after entries act adds.started (starts_of act o s_is ∙ starts) were.started;
  held = locks_kept ranks before after entries act adds.held (held_of ranks entries act o s_is ∙ held) were.held;
}
meets_add ranks before after entries act own o Leave step_is is s_is quiet starts held few adds were =
    stays_add ranks before after entries act o s_is quiet starts held (no_step act (ap is_arrive step_is)) adds were
meets_add ranks before after entries act own o One step_is is s_is quiet starts held few adds were =
    stays_add ranks before after entries act o s_is quiet starts held (no_step act (ap is_arrive step_is)) adds were

module _ (ranks : ℕ) (before after : Ledger) (entries : List Act) (act : Act) (few : length entries < 4294967295)
    (ranks_few : ranks ≤ 16) (were : HasTables ranks entries before) where
  made_few : length (synchronisations entries act.row.rank act.window) < 4294967295
  made_few = let a : length (synchronisations entries act.row.rank act.window) ≤ length entries =
      few_made entries act.row.rank act.window in omega arith

  brings : (s : Synchronisation) → synchronisation_of act.row.call ≡ Some s → brought act ≡ s ∷ []
  brings s is = ap (λ o. option_map_or (λ s. s ∷ []) o []) is

  synchronises_add : (deed : Deed) (s : Synchronisation) → synchronisation_of act.row.call ≡ Some s →
      (collective_of act.row.call ≡ collective_in (Synchronises 0 s)) → IsSynchronisationDeed ranks s deed →
      Adds before after act.window act.row.rank act.row.step deed → HasTables ranks (entries ++ act ∷ []) after
  synchronises_add deed (Fences asserts) s_is c_is is adds =
      meets_add ranks before after entries act FenceOf (Some (Fences asserts)) act.row.step refl c_is s_is (
        refl,
        refl,
        refl,
      ) refl refl few (subst (Adds before after act.window act.row.rank act.row.step) is adds) were
  synchronises_add deed (PostsTo group asserts) s_is c_is is adds =
      posts_case (λ d. Adds before after act.window act.row.rank act.row.step d →
      HasTables ranks (entries ++ act ∷ []) after) (members_of group) deed
      (λ named told adds. record {
        rounds = rounds_kept before after entries act adds.rounds (no_arrival act c_is) were.rounds;
        sides = sides_set before after entries act adds.side adds.sides were.sides
            (subst (λ b. IsSide (synchronisations entries act.row.rank act.window ++ b) adds.side)
            (sym (brings (PostsTo group asserts) s_is))
            (post_side (synchronisations entries act.row.rank act.window) group asserts
            (side_at before.sides (side_key act.window act.row.rank)) adds.side named made_few told adds.posts
            (were.sides act.window act.row.rank)));
        started = starts_kept before after entries act adds.started
            (starts_of act (Some (PostsTo group asserts)) s_is) were.started;
        held = locks_kept ranks before after entries act adds.held
            (held_of ranks entries act (Some (PostsTo group asserts)) s_is) were.held;
      }) is adds
  synchronises_add deed (StartsTo group asserts) s_is c_is is adds =
      starts_case (λ d. Adds before after act.window act.row.rank act.row.step d →
      HasTables ranks (entries ++ act ∷ []) after) (members_of group) deed
      (λ named told adds. record {
        rounds = rounds_kept before after entries act adds.rounds (no_arrival act c_is) were.rounds;
        sides = sides_set before after entries act adds.side adds.sides were.sides
            (subst (λ b. IsSide (synchronisations entries act.row.rank act.window ++ b) adds.side)
            (sym (brings (StartsTo group asserts) s_is))
            (start_side (synchronisations entries act.row.rank act.window) group asserts
            (side_at before.sides (side_key act.window act.row.rank)) adds.side named made_few told adds.starts
            (were.sides act.window act.row.rank)));
        started = starts_set before after entries act (members_of group) named adds.ordinals
            (starts_of act (Some (StartsTo group asserts)) s_is) few told adds.put
            (were.sides act.window act.row.rank) adds.started were.started;
        held = locks_kept ranks before after entries act adds.held
            (held_of ranks entries act (Some (StartsTo group asserts)) s_is) were.held;
      }) is adds
  synchronises_add deed CompletesOne s_is c_is is adds =
      let all : AddsComplete before after (side_key act.window act.row.rank) =
      subst (Adds before after act.window act.row.rank act.row.step) is adds in
      record {
        rounds = rounds_kept before after entries act all.rounds (no_arrival act c_is) were.rounds;
        sides = sides_set before after entries act all.side all.sides were.sides
            (subst (λ b. IsSide (synchronisations entries act.row.rank act.window ++ b) all.side)
            (sym (brings CompletesOne s_is))
            (complete_side (synchronisations entries act.row.rank act.window)
            (side_at before.sides (side_key act.window act.row.rank)) all.side made_few all.completes
            (were.sides act.window act.row.rank)));
        started = starts_kept before after entries act all.started
            (starts_of act (Some CompletesOne) s_is) were.started;
        held = locks_kept ranks before after entries act all.held
            (held_of ranks entries act (Some CompletesOne) s_is) were.held;
      }
  synchronises_add deed (WaitsFor tests) s_is c_is is adds =
      stays_add ranks before after entries act (Some (WaitsFor tests)) s_is (
        refl,
        refl,
        refl,
      ) refl refl (no_arrival act c_is)
      (subst (Adds before after act.window act.row.rank act.row.step) is adds) were
  synchronises_add deed (LocksWith kind target asserts) s_is c_is is adds =
      locks_case (λ d. Adds before after act.window act.row.rank act.row.step d →
      HasTables ranks (entries ++ act ∷ []) after) ranks kind target deed
      (λ one reach same told adds.
      let all : AddsLocks before after (side_key act.window act.row.rank) kind reach =
      subst (λ k. AddsLocks before after (side_key act.window act.row.rank) k reach) same adds in
      record {
        rounds = rounds_kept before after entries act all.rounds (no_arrival act c_is) were.rounds;
        sides = sides_kept before after entries act all.sides (subst IsQuiet (sym s_is) (refl, refl, refl)) were.sides;
        started = starts_kept before after entries act all.started
            (starts_of act (Some (LocksWith kind target asserts)) s_is) were.started;
        held = locks_set ranks before after entries act kind target asserts reach ranks_few s_is told all.held
            were.held;
      }) is adds
  synchronises_add deed (UnlocksOf target) s_is c_is is adds =
      unlocks_case (λ d. Adds before after act.window act.row.rank act.row.step d →
      HasTables ranks (entries ++ act ∷ []) after) ranks target deed
      (λ reach told adds. record {
        rounds = rounds_kept before after entries act adds.rounds (no_arrival act c_is) were.rounds;
        sides = sides_kept before after entries act adds.sides (subst IsQuiet (sym s_is) (refl, refl, refl)) were.sides;
        started = starts_kept before after entries act adds.started
            (starts_of act (Some (UnlocksOf target)) s_is) were.started;
        held = unlocks_set ranks before after entries act target reach ranks_few s_is told adds.held were.held;
      }) is adds
  synchronises_add deed (Flushes target local) s_is c_is is adds =
      stays_add ranks before after entries act (Some (Flushes target local)) s_is (
        refl,
        refl,
        refl,
      ) refl refl (no_arrival act c_is)
      (subst (Adds before after act.window act.row.rank act.row.step) is adds) were
  synchronises_add deed Syncs s_is c_is is adds =
      stays_add ranks before after entries act (Some Syncs) s_is (refl, refl, refl) refl refl (no_arrival act c_is)
      (subst (Adds before after act.window act.row.rank act.row.step) is adds) were

  action_add : (deed : Deed) (action : Action) → synchronisation_of act.row.call ≡ synchronisation_in action →
      collective_of act.row.call ≡ collective_in action → IsDeed ranks action deed →
      Adds before after act.window act.row.rank act.row.step deed → HasTables ranks (entries ++ act ∷ []) after
  action_add deed (Creates creation) s_is c_is is adds =
      meets_add ranks before after entries act CreationOf None act.row.step refl c_is s_is tt refl refl few
      (subst (Adds before after act.window act.row.rank act.row.step) is adds) were
  action_add deed (Frees win) s_is c_is is adds =
      meets_add ranks before after entries act FreeingOf None act.row.step refl c_is s_is tt refl refl few
      (subst (Adds before after act.window act.row.rank act.row.step) is adds) were
  action_add deed (Synchronises win s) s_is c_is is adds = synchronises_add deed s s_is c_is is adds
  action_add deed MeetsAll s_is c_is is adds =
      meets_add ranks before after entries act BarrierOf None act.row.step refl c_is s_is tt refl refl few
      (subst (Adds before after act.window act.row.rank act.row.step) is adds) were
  action_add deed action s_is c_is is adds =
      stays_add ranks before after entries act None s_is tt refl refl (no_arrival act c_is)
      (subst (Adds before after act.window act.row.rank act.row.step) is adds) were

-- the tables after one entry more
pub tables_more : (ranks : ℕ) (before after : Ledger) (entries : List Act) (act : Act) (deed : Deed) →
    length entries < 4294967295 → ranks ≤ 16 → IsDeed ranks (action_of act.row.call) deed →
    Adds before after act.window act.row.rank act.row.step deed → HasTables ranks entries before →
    HasTables ranks (entries ++ act ∷ []) after
tables_more ranks before after entries act deed few ranks_few is adds were =
    action_add ranks before after entries act few ranks_few were deed (action_of act.row.call) refl refl is adds
