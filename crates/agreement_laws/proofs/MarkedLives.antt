-- The log of a rank is marked through its whole history.
use Rattle.std.proofs.Common.{true, ◌≡◌, ℕ, ◌+◌, inl, inr, List, [], ◌∷◌, ◌++◌, length, Option, Some, None}
use Rattle.std.proofs.Common.{refl, ap, sym, ◌∙◌, subst, arith, append_assoc, length-append}
use Rattle.std.specs.Prelude.{slice_get, remove}
use Rattle.std.specs.List.{AllByRecursion}
use Rattle.std.proofs.lemmas.List.{length-map}
use Rattle.list_laws.proofs.Each.{each_removed, each_weaker, each_at}
use Rattle.list_laws.proofs.Lists.{cancel}
use Rattle.rma_record.specs.declared.items.Item.{Item}
use Rattle.rma_record.specs.declared.items.Item.TheVariants.{Entry}
use Rattle.board_rules.specs.Entries.{Row}
use Rattle.lawful_runs.specs.Accesses.{issued_at, transfer_at}
use Rattle.lawful_runs.specs.Stages.{Stage, calls_at}
use Rattle.rank_laws.proofs.DataPaths.{step_path}
use Rattle.rank_laws.proofs.Histories.{most_same, most_join, put_rises, rows_joined}
use Rattle.rank_laws.proofs.Inductions.{path_keeps, life_holds}
use Rattle.rank_laws.proofs.Moves.{Point, point}
use Rattle.rank_laws.proofs.Pendings.{IsUntouched}
use Rattle.rank_laws.proofs.TouchLaws.{new_touches}
use Rattle.rank_laws.proofs.Touching.{issued_still}
use Rattle.rank_laws.proofs.TouchMoves.{KeepsTouches, touches_kept}
use Rattle.rank_laws.specs.Deliveries.{IsDelivered}
use Rattle.rank_laws.specs.Fronts.{Lows, AreAtMost, Put, rows_put, ArePut}
use Rattle.rank_laws.specs.Lives.{LooksAfter, Lives, Begins, Looks, Steps, Drains, Stays, Drained, HasLived}
use Rattle.rank_rules.specs.declared.pending.PendingAccess.{PendingAccess}
use Rattle.step_runs.specs.Agents.{Agent}
use Rattle.step_runs.specs.BoardSteps.{board_step}
use Rattle.agreement_laws.proofs.BoardItems.{AreItemsOfRows, NoItem, Quiet, Single, Double, board_adds}
use Rattle.agreement_laws.proofs.Marks.{Mark, Marking, AreMarked, AreMore, marked_rises, marked_learns, marked_more}
use Rattle.agreement_laws.proofs.Marks.{quiet_more}
use Rattle.agreement_laws.proofs.MarkMoves.{marking_of, access_more, HasMarksAt, marks_kept}

-- ---- a step at the board

-- the marks of entries that are put in one step
entries_more : (m : Marking) (before puts : List Put) (items : List Item) (rows : List Row) (at : ℕ)
    (lows after : Lows) →
    m.puts ≡ before ++ puts → at ≡ length before → rows_put puts ≡ rows → AreItemsOfRows at items rows →
    ArePut m.ranks before lows puts after → AreMore m items lows after
entries_more m before [] _ _ at lows after all long is NoItem put =
    record { marks = []; are = refl; rising = tt; above = tt; below = tt; right = tt; rise = put }
entries_more m before (one ∷ puts) _ _ at lows after all long is NoItem put = absurd (cc is)
entries_more m before [] _ _ at lows after all long is (Quiet item plain other) put =
    let quiet = quiet_more m item lows plain other in
    record {
      marks = quiet.marks;
      are = quiet.are;
      rising = quiet.rising;
      above = quiet.above;
      below = each_weaker (λ (mark : Mark). AreAtMost mark.out lows) (λ (mark : Mark). AreAtMost mark.out after)
          (λ mark low. most_join mark.out lows after low put) quiet.marks quiet.below;
      right = quiet.right;
      rise = put;
    }
entries_more m before (one ∷ puts) _ _ at lows after all long is (Quiet item plain other) put = absurd (cc is)
entries_more m before [] _ _ at lows after all long is (Single row) put = absurd (cc is)
entries_more m before (one ∷ []) _ _ at lows after all long is (Single row) put =
    let same : one.row ≡ row = cc is in
    record {
      marks = record { item = Entry row.number at row.step; low = lows; out = put.0 } ∷ [];
      are = refl;
      rising = (tt, tt);
      above = (most_same lows, tt);
      below = (put.4, tt);
      right = (
        record {
          before = before;
          put = one;
          rest = [];
          split = all;
          long = sym long;
          above = λ event edge.
              (put.2 event edge).0;
          meets = put.3;
        },
        tt,
      );
      rise = put_rises m.ranks before lows (one ∷ []) after put;
    }
entries_more m before (one ∷ two ∷ puts) _ _ at lows after all long is (Single row) put = absurd (cc is)
entries_more m before [] _ _ at lows after all long is (Double first second next e leaves) put = absurd (cc is)
entries_more m before (one ∷ []) _ _ at lows after all long is (Double first second next e leaves) put = absurd (cc is)
entries_more m before (one ∷ two ∷ []) _ _ at lows after all long is (Double first second next e leaves) put =
    let later = put.4 in
    record {
      marks = record { item = Entry first.number at first.step; low = lows; out = put.0 }
          ∷ record { item = Entry second.number next second.step; low = put.0; out = later.0 } ∷ [];
      are = refl;
      rising = ((most_same put.0, tt), (tt, tt));
      above = (most_same lows, (put.1, tt));
      below = (put_rises m.ranks (before ++ one ∷ []) put.0 (two ∷ []) after later, (later.4, tt));
      right = (
        record {
          before = before;
          put = one;
          rest = two ∷ [];
          split = all;
          long = sym long;
          above = λ event edge. (put.2 event edge).0;
          meets = put.3;
        },
        (
          record {
            before = before ++ one ∷ [];
            put = two;
            rest = [];
            split = all ∙ sym (append_assoc before (one ∷ []) (two ∷ []));
            long = length-append before (one ∷ []) ∙ ap (λ n. n + 1) (sym long) ∙ sym e;
            above = λ event edge. (later.2 event edge).0;
            meets = later.3;
          },
          tt,
        ),
      );
      rise = put_rises m.ranks before lows (one ∷ two ∷ []) after put;
    }
entries_more m before (one ∷ two ∷ three ∷ puts) _ _ at lows after all long is (Double first second next e leaves) put =
    absurd (cc is)

looks_marked : (stage : Stage) (agent : Agent) (before puts : List Put) (lows after : Lows) →
    LooksAfter stage agent before lows puts after →
    AreMarked (marking_of stage agent before) lows →
    AreMarked (marking_of stage (board_step stage agent (rows_put before)).agent (before ++ puts)) after
looks_marked stage agent before puts lows after looks marked =
    let step = board_step stage agent (rows_put before) in
    let adds = board_adds stage agent (rows_put before) in
    let rows : rows_put puts ≡ adds.more =
    cancel (rows_put before) (rows_put puts) adds.more (sym (rows_joined before puts) ∙ sym looks.rows ∙ adds.now) in
    let m : Marking = marking_of stage agent (before ++ puts) in
    let more = entries_more m before puts adds.items adds.more (length (rows_put before)) lows after refl
    (length-map before (λ (put : Put). put.row)) rows adds.are looks.fronts in
    let grown = marked_more m adds.items lows after (marked_learns (marking_of stage agent before) puts lows marked)
    more in
    subst (λ (r : ℕ). AreMarked (record (marking_of stage step.agent (before ++ puts)) { calls = calls_at stage r })
    after) (sym adds.mine)
    (subst (λ l. AreMarked (record m { log = l }) after) (sym adds.log) grown)

-- ---- a life

keeps_touches : (stage : Stage) (seed rank : ℕ) (agent : Agent) (known : List Put) (lows : Lows) →
    Lives stage seed rank agent known lows →
    KeepsTouches stage agent
keeps_touches stage seed rank agent known lows life =
    (life_holds true stage seed rank (λ (p : Point). KeepsTouches stage p.agent) (touches_kept stage)
    (new_touches stage seed rank) agent known lows life).0

pub life_marked : (stage : Stage) (seed rank : ℕ) (agent : Agent) (known : List Put) (lows : Lows) →
    Lives stage seed rank agent known lows →
    AreMarked (marking_of stage agent known) lows
life_marked stage seed rank _ _ _ Begins = record { marks = []; items = refl; rising = tt; below = tt; right = tt }
life_marked stage seed rank _ _ _ (Looks agent known others puts lows after life apart looks) =
    looks_marked stage agent (known ++ others) puts lows after looks
    (marked_learns (marking_of stage agent known) others lows (life_marked stage seed rank agent known lows life))
life_marked stage seed rank _ _ _ (Steps agent next known lows after life tries made) =
    let rows = rows_put known in
    let path = step_path true stage agent next rows lows after made in
    let kept = path_keeps true stage (HasMarksAt stage known (length rows)) (marks_kept stage known (length rows))
    (point agent rows lows) (point next rows after)
    (inr (
      refl,
      record {
        touches = keeps_touches stage seed rank agent known lows life;
        marked = life_marked stage seed rank agent known lows life;
      },
    )) path in
    elim kept [
      | inl past ↦ absurd (omega (arith, past))
      | inr here ↦ here.1.marked
    ]

-- ---- after the last step

-- the Issue of each pending access stands in the log
abbrev AreIssued : Stage → Agent → Type 0
AreIssued stage agent =
    AllByRecursion (λ (one : PendingAccess). issued_at (calls_at stage agent.rank) agent.log one.index ≡ Some one)
    agent.pending

drain_marked : (stage : Stage) (puts : List Put) (agent next : Agent) (lows after : Lows) (o : Option PendingAccess) →
    slice_get agent.pending 0 ≡ o →
    AreMarked (marking_of stage agent puts) lows → AreIssued stage agent → IsDelivered stage agent 0 o lows next after →
    AreMarked (marking_of stage next puts) after × AreIssued stage next
drain_marked stage puts agent next lows after None e marked issued (same, rise) =
    subst (λ (a : Agent). AreMarked (marking_of stage a puts) after × AreIssued stage a) (sym same)
    (marked_rises (marking_of stage agent puts) lows after rise marked, issued)
drain_marked stage puts agent next lows after (Some one) e marked issued (items, touches, same) =
    let calls = calls_at stage agent.rank in
    let its = each_at (λ (one : PendingAccess). issued_at calls agent.log one.index ≡ Some one) agent.pending 0 one
    issued e in
    subst (λ (a : Agent). AreMarked (marking_of stage a puts) after × AreIssued stage a) (sym same) (
      marked_more (marking_of stage agent puts) items lows after marked
          (access_more (marking_of stage agent puts) stage one lows after items refl its
          (transfer_at calls one.number) refl touches),
      each_weaker (λ (other : PendingAccess). issued_at calls agent.log other.index ≡ Some other)
          (λ (other : PendingAccess). issued_at calls (agent.log ++ items) other.index ≡ Some other)
          (λ other is. issued_still calls agent.log items other.index other is) (remove agent.pending 0)
          (each_removed (λ (other : PendingAccess). issued_at calls agent.log other.index ≡ Some other) agent.pending 0
          issued),
    )

drains_marked : (stage : Stage) (puts : List Put) (agent : Agent) (lows : Lows) →
    AreMarked (marking_of stage agent puts) lows → AreIssued stage agent →
    (last : Agent) (low : Lows) → Drains stage agent lows last low → AreMarked (marking_of stage last puts) low
    × AreIssued stage last
drains_marked stage puts agent lows marked issued _ _ Stays = (marked, issued)
drains_marked stage puts agent lows marked issued _ _ (Drained now next low after drains made) =
    let old = drains_marked stage puts agent lows marked issued now low drains in
    drain_marked stage puts now next low after (slice_get now.pending 0) refl old.0 old.1 made

-- the log of a rank is marked at the end of its history
pub lived_marked : (stage : Stage) (seed rank : ℕ) (puts : List Put) (agent : Agent)
    (lived : HasLived stage seed rank puts agent) →
    AreMarked (marking_of stage agent puts) lived.last
lived_marked stage seed rank puts agent lived =
    let old = life_marked stage seed rank lived.stopped lived.known lived.lows lived.life in
    let all : AreMarked (marking_of stage lived.stopped puts) lived.lows =
    subst (λ l. AreMarked (marking_of stage lived.stopped l) lived.lows) (sym lived.entries)
    (marked_learns (marking_of stage lived.stopped lived.known) lived.later lived.lows old) in
    let touches = keeps_touches stage seed rank lived.stopped lived.known lived.lows lived.life in
    let calls = calls_at stage lived.stopped.rank in
    (drains_marked stage puts lived.stopped lived.lows all
    (each_weaker (IsUntouched calls lived.stopped.log)
    (λ (one : PendingAccess). issued_at calls lived.stopped.log one.index ≡ Some one)
    (λ one is. is.0) lived.stopped.pending touches.has.waiting) agent lived.last lived.drains).0
