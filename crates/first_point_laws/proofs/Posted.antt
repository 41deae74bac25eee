-- Where a rank completes a start, each member of its group has posted to the rank once more than the rank had started
-- to it before.
use Rattle.std.proofs.Common.{◌≡◌, ℕ, ◌<◌, ◌≤◌, ◌⊎◌, inl, inr, true, List, [], ◌∷◌, ◌++◌, length}
use Rattle.std.proofs.Common.{Option, Some, refl, ap, sym, ◌∙◌, subst, arith, append_assoc}
use Rattle.std.specs.Prelude.{nat_lt, slice_get, ℤ}
use Rattle.std.specs.List.{flat_map}
use Rattle.std.proofs.lemmas.Bool.{ltb-true}
use Rattle.std.proofs.lemmas.Grind.{flat_map-append}
use Rattle.list_laws.proofs.Members.{all_in}
use Rattle.rma_types.specs.declared.accesses.Id.{Id}
use Rattle.rma_types.specs.declared.accesses.Step.{Step}
use Rattle.rma_types.specs.declared.accesses.Step.TheVariants.{One}
use Rattle.rma_types.specs.declared.calls.Asserts.{Asserts}
use Rattle.rma_types.specs.declared.schedules.Delay.TheVariants.{Seeded}
use Rattle.rma_types.specs.declared.scripts.Script.{Script}
use Rattle.rma_types.proofs.ActionLaws.{is_synchronising}
use Rattle.rma_record.specs.declared.items.Item.{Item}
use Rattle.rma_record.specs.declared.items.Item.TheVariants.{Entry}
use Rattle.rma_record.specs.declared.runs.Run.{Run}
use Rattle.call_rules.proofs.RankLaws.{member_in}
use Rattle.board_rules.specs.Board.{Allow, decision, refusal, may_enter_now, may_synchronise_now}
use Rattle.board_rules.specs.Entries.{Row, window_of}
use Rattle.board_rules.specs.Posts.{group_of_post, group_of_start, naming, posts, starts, start_has_posts}
use Rattle.board_rules.specs.Questions.{Question, question}
use Rattle.rma_types.specs.declared.actions.Synchronisation.{Synchronisation}
use Rattle.rma_types.specs.declared.actions.Synchronisation.TheVariants.{Fences, Posts, Starts, Completes, Waits, Locks}
use Rattle.rma_types.specs.declared.actions.Synchronisation.TheVariants.{Unlocks, Flushes, Syncs}
use Rattle.rma_types.specs.Actions.{action_of, synchronisation_of}
use Rattle.call_rules.specs.Ranks.{members_of, is_member}
use Rattle.call_rules.specs.WellFormed.{IsWellFormed}
use Rattle.board_rules.proofs.DecisionLaws.{allowed_now}
use Rattle.lawful_runs.specs.LawfulRun.{IsLawful}
use Rattle.lawful_runs.specs.Logs.{log_of, rows_of}
use Rattle.order_laws.proofs.Edges.{naming_append}
use Rattle.first_point_laws.proofs.Ended.{IsGroupEnded}
use Rattle.first_point_laws.proofs.Placed.{IsPlaced, placed_row}
use Rattle.first_point_laws.proofs.Positions.{is_paired}
use Rattle.first_point_laws.proofs.Splits.{made, made_after, made_is, made_joined, stands_after}
use Rattle.first_point_laws.proofs.Waiting.{synchronised_at}

-- ---- starts among synchronisations

-- the synchronisation is a start of the group
pub record IsStartOf (s : Synchronisation) (group : List ℕ) : Type 0 where
  pub ranks : List ℤ
  pub asserts : Asserts
  pub is : s ≡ Starts ranks asserts
  pub group_is : members_of ranks ≡ group

start_or_none : (s : Synchronisation) → (group_of_start s ≡ []) ⊎ ((group : List ℕ) × (group_of_start s ≡ group ∷ [])
    × IsStartOf s group)
start_or_none (Fences asserts) = inl refl
start_or_none (Posts ranks asserts) = inl refl
start_or_none (Starts ranks asserts) =
    inr (members_of ranks, refl, record { ranks = ranks; asserts = asserts; is = refl; group_is = refl })
start_or_none Completes = inl refl
start_or_none (Waits tests) = inl refl
start_or_none (Locks kind target asserts) = inl refl
start_or_none (Unlocks target) = inl refl
start_or_none (Flushes target local) = inl refl
start_or_none Syncs = inl refl

-- the start of a group that comes after those of other groups
record IsSplitAt (made : List Synchronisation) (ended : List (List ℕ)) (group : List ℕ) : Type 0 where
  front : List Synchronisation
  s : Synchronisation
  back : List Synchronisation
  split : made ≡ front ++ s ∷ back
  groups : flat_map group_of_start front ≡ ended
  start : IsStartOf s group

start_split : (made : List Synchronisation) (ended : List (List ℕ)) (group : List ℕ) (more : List (List ℕ)) →
    flat_map group_of_start made ≡ ended ++ group ∷ more → IsSplitAt made ended group
start_split [] [] group more e = absurd (cc e)
start_split [] (g ∷ ended) group more e = absurd (cc e)
start_split (x ∷ made) ended group more e =
    by_start (start_or_none x) ended e (λ ended e. start_split made ended group more e)
  where
    after : (ended rest : List (List ℕ)) → group_of_start x ++ rest ≡ ended → IsSplitAt made rest group →
        IsSplitAt (x ∷ made) ended group
    after ended rest is one = record {
      front = x ∷ one.front;
      s = one.s;
      back = one.back;
      split = ap (λ l. x ∷ l) one.split;
      groups = ap (λ l. group_of_start x ++ l) one.groups ∙ is;
      start = one.start;
    }

    head_of : {g h : List ℕ} {gs hs : List (List ℕ)} → g ∷ gs ≡ h ∷ hs → g ≡ h
    head_of e = cc e

    tail_of : {g h : List ℕ} {gs hs : List (List ℕ)} → g ∷ gs ≡ h ∷ hs → gs ≡ hs
    tail_of e = cc e

    by_start : ((group_of_start x ≡ []) ⊎ ((one : List ℕ) × (group_of_start x ≡ one ∷ []) × IsStartOf x one)) →
        (ended : List (List ℕ)) → group_of_start x ++ flat_map group_of_start made ≡ ended ++ group ∷ more →
        ((ended : List (List ℕ)) → flat_map group_of_start made ≡ ended ++ group ∷ more →
        IsSplitAt made ended group) → IsSplitAt (x ∷ made) ended group
    by_start (inl none) ended e rest = after ended ended (ap (λ l. l ++ ended) none)
        (rest ended (sym (ap (λ l. l ++ flat_map group_of_start made) none) ∙ e))
    by_start (inr one) [] e rest =
        let whole = sym (ap (λ l. l ++ flat_map group_of_start made) one.1) ∙ e in
        record {
          front = [];
          s = x;
          back = made;
          split = refl;
          groups = refl;
          start = subst (IsStartOf x) (head_of whole) one.2;
        }
    by_start (inr one) (g ∷ ended) e rest =
        let whole = sym (ap (λ l. l ++ flat_map group_of_start made) one.1) ∙ e in
        after (g ∷ ended) ended (ap (λ l. l ++ ended) one.1 ∙ ap (λ h. h ∷ ended) (head_of whole))
        (rest ended (tail_of whole))

-- ---- what an entry that is allowed says

start_allowed : (q : Question) (s : Synchronisation) (group : List ℕ) → IsStartOf s group → decision q One ≡ Allow →
    synchronisation_of q.call ≡ Some s → start_has_posts q group ≡ true
start_allowed q s group start allowed e =
    let is = is_synchronising (action_of q.call) s e in
    let now : may_enter_now q (action_of q.call) ≡ true = allowed_now (refusal q One)
    (may_enter_now q (action_of q.call)) allowed in
    let may : may_synchronise_now q s ≡ true = subst (λ action. may_enter_now q action ≡ true) is.1 now in
    subst (λ g. start_has_posts q g ≡ true) start.group_is
    (subst (λ x. may_synchronise_now q x ≡ true) start.is may)

-- posts grow
pub posts_grow : (rank target window : ℕ) (xs ys : List Row) →
    naming rank (flat_map group_of_post (made target window xs))
    ≤ naming rank (flat_map group_of_post (made target window (xs ++ ys)))
posts_grow rank target window xs ys =
    let joined = ap (λ l. naming rank (flat_map group_of_post l)) (made_joined target window [] xs ys)
    ∙ ap (naming rank) (flat_map-append group_of_post (made target window xs) (made_after target window xs ys))
    ∙ naming_append rank (flat_map group_of_post (made target window xs))
    (flat_map group_of_post (made_after target window xs ys)) in
    omega (arith, joined)

module _ (script : Script) (run : Run) (formed : IsWellFormed script) (lawful : IsLawful script Seeded run) where
  -- a start is allowed where the members of its group have posted
  start_at : (before : List Row) (row : Row) (later : List Row) (id : Id) → IsPlaced script run before row later id →
      (s : Synchronisation) (group : List ℕ) → IsStartOf s group → synchronisation_of row.call ≡ Some s →
      start_has_posts (question script.ranks before row) group ≡ true
  start_at before row later id placed s group start sync =
      let paired : is_paired s ≡ true = ap is_paired start.is in
      let here = synchronised_at script run formed lawful id.rank id.index row.number row.call s
      placed.within placed.of_rank sync (Entry row.number (length before) row.step) row.step
      placed.logged refl paired in
      let step = same_step (slice_get (log_of run id.rank) id.index) row.number (length before) here.number
      (length here.earlier) row.step One placed.logged here.placed.logged in
      start_allowed (question script.ranks before row) s group start
      (subst (λ t. decision (question script.ranks before row) t ≡ Allow) step placed.allowed) sync
    where
      same_step : (o : Option Item) (n p m q : ℕ) (s t : Step) → o ≡ Some (Entry n p s) → o ≡ Some (Entry m q t) → s ≡ t
      same_step o n p m q s t first second =
          let both : Some (Entry n p s) ≡ Some (Entry m q t) = sym first ∙ second in
          let same : Entry n p s ≡ Entry m q t = cc both in cc same

  -- so it has as many posts as it asks for
  posts_before : (rank target window : ℕ) (before : List Row) (row : Row) (group : List ℕ)
      (ended : List (List ℕ)) → row.rank ≡ rank → window_of before row ≡ window →
      flat_map group_of_start (made rank window before) ≡ ended → is_member target group ≡ true →
      start_has_posts (question script.ranks before row) group ≡ true →
      naming target ended < naming rank (flat_map group_of_post (made target window before))
  posts_before rank target window before row group ended rank_is window_is groups member has =
      let below = ltb-true _ _ (all_in (λ member. nat_lt
      (naming member (starts (question script.ranks before row) row.rank))
      (naming row.rank (posts (question script.ranks before row) member))) has (member_in target group member)) in
      let started : naming target (starts (question script.ranks before row) row.rank) ≡ naming target ended =
      ap (λ l. naming target (flat_map group_of_start l)) (made_is row.rank (window_of before row) [] before
      ∙ (λ i. made (rank_is i) (window_is i) before)) ∙ ap (naming target) groups in
      let posted : naming row.rank (posts (question script.ranks before row) target)
      ≡ naming rank (flat_map group_of_post (made target window before)) =
      ap (λ l. naming row.rank (flat_map group_of_post l)) (made_is target (window_of before row) [] before
      ∙ ap (λ n. made target n before) window_is)
      ∙ ap (λ r. naming r (flat_map group_of_post (made target window before))) rank_is in
      omega (arith, below, started, posted)

  -- the start of the group was allowed: its members had posted
  pub posts_needed : (rank target window : ℕ) (earlier later : List Row) → rows_of script run ≡ earlier ++ later →
      (g : IsGroupEnded rank target window earlier) →
      naming target g.ended < naming rank (flat_map group_of_post (made target window earlier))
  posts_needed rank target window earlier later split g =
      let one = start_split (made rank window earlier) g.ended g.group g.more g.begun in
      let stands = stands_after rank window [] earlier one.front one.s one.back one.split in
      let placed = placed_row script Seeded run lawful stands.earlier stands.row (stands.later ++ later)
      (split ∙ ap (λ l. l ++ later) stands.split ∙ append_assoc stands.earlier (stands.row ∷ stands.later) later) in
      let has = start_at stands.earlier stands.row (stands.later ++ later) placed.0 placed.1 one.s g.group one.start
      stands.call_is in
      let needed = posts_before rank target window stands.earlier stands.row g.group g.ended stands.rank_is
      stands.window_is (ap (flat_map group_of_start) stands.made_before ∙ one.groups) g.member has in
      let grown = posts_grow rank target window stands.earlier (stands.row ∷ stands.later) in
      let same : naming rank (flat_map group_of_post (made target window earlier))
      ≡ naming rank (flat_map group_of_post (made target window (stands.earlier ++ stands.row ∷ stands.later))) =
      ap (λ l. naming rank (flat_map group_of_post (made target window l))) stands.split in
      omega (arith, needed, grown, same)
