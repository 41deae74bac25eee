-- A history among entries that the board keeps is one among the entries with the values of their calls, where each is of
-- the script.
use Rattle.std.proofs.Common.{◌≡◌, ℕ, inl, inr, true, List, [], ◌∷◌, ◌++◌, map}
use Rattle.std.proofs.Common.{Option, Some, refl, sym, ◌∙◌, ap, subst, append-nil}
use Rattle.std.specs.Prelude.{slice_get}
use Rattle.std.specs.List.{AllByRecursion}
use Rattle.std.specs.Option.{option_map_or}
use Rattle.std.proofs.lemmas.List.{map-append}
use Rattle.list_laws.proofs.Each.{each_append, each_front}
use Rattle.list_laws.proofs.Lists.{cancel}
use Rattle.rma_types.specs.declared.calls.Call.{Call}
use Rattle.rma_types.proofs.CallLaws.{call_kept_again}
use Rattle.agreement_laws.proofs.BoardItems.{IsNextRow, board_adds}
use Rattle.board_rules.specs.Entries.{Row}
use Rattle.call_rules.specs.Layout.{cells_of}
use Rattle.kept_rows.proofs.KeptActs.{parts_kept}
use Rattle.kept_rows.proofs.KeptAnswers.{decide_kept}
use Rattle.kept_rows.specs.Gifts.{Given, rows_given}
use Rattle.kept_rows.specs.KeptCalls.{kept_row}
use Rattle.kept_rows.specs.KeptRowLaws.{kept_rows}
use Rattle.lawful_runs.specs.Stages.{Stage, calls_at}
use Rattle.rank_laws.proofs.DataPaths.{step_path}
use Rattle.rank_laws.proofs.Inductions.{IsOf, path_keeps, rank_kept}
use Rattle.rank_laws.proofs.Moves.{point}
use Rattle.rank_laws.specs.Fronts.{Lows, Put, rows_put, AreOthers}
use Rattle.rank_laws.specs.Lives as whole
use Rattle.rank_laws.specs.Lives.{Lives, LooksAfter, HasLived, Stops}
use Rattle.step_runs.specs.Agents.{Agent, next_call}
use Rattle.step_runs.specs.BoardSteps.{AtBoard, board_step, stay_waiting}
use Rattle.rank_histories.proofs.KeptEvents.{AreAlike, put_alike}
use Rattle.rank_histories.proofs.KeptSteps.{Laws, alike_step}
use Rattle.rank_histories.proofs.Looking.{given_rows}
use Rattle.rank_histories.specs.Among.{LivesAmong, Begins, Looks, Steps, LooksAmong, HasLivedAmong, AreOfOthers}
use Rattle.rank_histories.specs.Among.{front_of, puts_of}

laws : Laws
laws = record { decisions = decide_kept; parts = parts_kept }

-- ---- entries with their values

-- the entry with the call of its number
abbrev pub whole_row : Stage → Row → Row
whole_row stage row =
    record row {
      call = option_map_or (λ (call : Call). call) (slice_get (calls_at stage row.rank) row.number) row.call;
    }

abbrev pub whole_put : Stage → Given → Put
whole_put stage one =
    record { row = whole_row stage one.row; front = front_of (cells_of stage.layout) one.gift }

abbrev pub whole_puts : Stage → List Given → List Put
whole_puts stage entries = map (whole_put stage) entries

-- the entry is the one of its rank and number, as the board keeps it
abbrev pub IsOfScript : Stage → Given → Type 0
IsOfScript stage one = kept_row (whole_row stage one.row) ≡ one.row

row_twice : (row : Row) → kept_row (kept_row row) ≡ kept_row row
row_twice row = λ i. record row { call = call_kept_again row.call i }

alike_whole : (stage : Stage) (entries : List Given) → AllByRecursion (IsOfScript stage) entries →
    AreAlike (puts_of (cells_of stage.layout) entries) (whole_puts stage entries)
alike_whole stage [] all = tt
alike_whole stage (one ∷ entries) all = (
  ap kept_row (sym all.0) ∙ row_twice (whole_row stage one.row),
  refl,
  alike_whole stage entries all.1,
)

rows_alike : (stage : Stage) (entries : List Given) → AllByRecursion (IsOfScript stage) entries →
    kept_rows (rows_put (whole_puts stage entries)) ≡ kept_rows (rows_given entries)
rows_alike stage [] all = refl
rows_alike stage (one ∷ entries) all =
    let here : kept_row (whole_row stage one.row) ≡ kept_row one.row =
    sym (row_twice (whole_row stage one.row)) ∙ ap kept_row all.0 in
    λ i. here i ∷ rows_alike stage entries all.1 i

others_whole : (stage : Stage) (rank : ℕ) (entries : List Given) → AreOfOthers rank entries →
    AreOthers rank (whole_puts stage entries)
others_whole stage rank [] apart = tt
others_whole stage rank (one ∷ entries) apart = (apart.0, others_whole stage rank entries apart.1)

-- ---- a rank's own entries

-- an entry of the next call is kept with the rank and the number of the call
next_whole : (stage : Stage) (agent : Agent) (row : Row) → IsNextRow (next_call stage agent) agent row →
    whole_row stage (kept_row row) ≡ row
next_whole stage agent row next =
    let here : slice_get (calls_at stage row.rank) row.number ≡ Some row.call =
    (λ i. slice_get (calls_at stage (next.0 i)) (next.1 i)) ∙ next.2 in
    ap (λ (o : Option Call). record row { call = option_map_or (λ (call : Call). call) o (kept_row row).call }) here

news_whole : (stage : Stage) (agent : Agent) (rows : List Row) (given : List Given) →
    AllByRecursion (IsNextRow (next_call stage agent) agent) rows → rows_given given ≡ kept_rows rows →
    rows_put (whole_puts stage given) ≡ rows
news_whole stage agent [] [] own e = refl
news_whole stage agent [] (one ∷ given) own e = absurd (cc e)
news_whole stage agent (row ∷ rows) [] own e = absurd (cc e)
news_whole stage agent (row ∷ rows) (one ∷ given) own e =
    let is : one.row ≡ kept_row row = cc e in
    let here : whole_row stage one.row ≡ row = ap (whole_row stage) is ∙ next_whole stage agent row own.0 in
    let rest = news_whole stage agent rows given own.1 (cc e) in
    λ i. here i ∷ rest i

news_of_script : (stage : Stage) (agent : Agent) (rows : List Row) (given : List Given) →
    AllByRecursion (IsNextRow (next_call stage agent) agent) rows → rows_given given ≡ kept_rows rows →
    AllByRecursion (IsOfScript stage) given
news_of_script stage agent [] [] own e = tt
news_of_script stage agent [] (one ∷ given) own e = absurd (cc e)
news_of_script stage agent (row ∷ rows) [] own e = absurd (cc e)
news_of_script stage agent (row ∷ rows) (one ∷ given) own e =
    let is : one.row ≡ kept_row row = cc e in (
      ap (λ r. kept_row (whole_row stage r)) is ∙ ap kept_row (next_whole stage agent row own.0) ∙ sym is,
      news_of_script stage agent rows given own.1 (cc e),
    )

-- its own entries are of the script
abbrev pub OwnIsOfScript : Stage → ℕ → Given → Type 0
OwnIsOfScript stage rank one = one.row.rank ≡ rank → IsOfScript stage one

each_other : (stage : Stage) (rank : ℕ) (entries : List Given) → AreOfOthers rank entries →
    AllByRecursion (OwnIsOfScript stage rank) entries
each_other stage rank [] apart = tt
each_other stage rank (one ∷ entries) apart = (λ own. absurd (apart.0 own), each_other stage rank entries apart.1)

each_own : (stage : Stage) (rank : ℕ) (entries : List Given) → AllByRecursion (IsOfScript stage) entries →
    AllByRecursion (OwnIsOfScript stage rank) entries
each_own stage rank [] all = tt
each_own stage rank (one ∷ entries) all = (λ own. all.0, each_own stage rank entries all.1)

pub lives_own : (stage : Stage) (seed rank : ℕ) (agent : Agent) (known : List Given) (lows : Lows) →
    LivesAmong stage seed rank agent known lows →
    (agent.rank ≡ rank) × AllByRecursion (OwnIsOfScript stage rank) known
lives_own stage seed rank _ _ _ Begins = (refl, tt)
lives_own stage seed rank _ _ _ (Looks agent known others given lows after life apart looks) =
    let old = lives_own stage seed rank agent known lows life in
    let before : List Given = known ++ others in
    let adds = board_adds stage agent (rows_given before) in (
      adds.mine ∙ old.0,
      each_append (OwnIsOfScript stage rank) before given
          (each_append (OwnIsOfScript stage rank) known others old.1 (each_other stage rank others apart))
          (each_own stage rank given
          (news_of_script stage agent adds.more given adds.own (given_rows stage agent before given looks.rows))),
    )
lives_own stage seed rank _ _ _ (Steps agent next known lows after life tries made) =
    let old = lives_own stage seed rank agent known lows life in
    let rows = rows_given known in (
      path_keeps true stage (IsOf rank) (rank_kept true stage rank) (point agent rows lows) (point next rows after)
          old.0 (step_path true stage agent next rows lows after made),
      old.1,
    )

-- ---- the history

-- what a look among kept entries is among the entries themselves
record IsLook (stage : Stage) (agent : Agent) (before : List Given) (lows : Lows) (given : List Given) (after : Lows)
    : Type 0 where
  agent_is : (board_step stage agent (rows_put (whole_puts stage before))).agent
      ≡ (board_step stage agent (rows_given before)).agent
  looks : LooksAfter stage agent (whole_puts stage before) lows (whole_puts stage given) after

look_whole : (stage : Stage) (agent : Agent) (before given : List Given) (lows after : Lows) →
    AllByRecursion (IsOfScript stage) before → LooksAmong stage agent before lows given after →
    IsLook stage agent before lows given after
look_whole stage agent before given lows after all looks =
    let xs = rows_put (whole_puts stage before) in
    let ys = rows_given before in
    let alike = alike_step laws stage agent xs ys (rows_alike stage before all) in
    let here = board_adds stage agent xs in
    let there = board_adds stage agent ys in
    let same : kept_rows xs ++ kept_rows here.more ≡ kept_rows xs ++ kept_rows there.more =
    sym (map-append kept_row xs here.more) ∙ ap kept_rows (sym here.now) ∙ alike.kept ∙ ap kept_rows there.now
    ∙ map-append kept_row ys there.more ∙ ap (λ l. l ++ kept_rows there.more) (sym (rows_alike stage before all)) in
    let more : kept_rows here.more ≡ kept_rows there.more =
    cancel (kept_rows xs) (kept_rows here.more) (kept_rows there.more) same in
    let new : rows_given given ≡ kept_rows here.more =
    given_rows stage agent before given looks.rows ∙ sym more in
    let rows : rows_put (whole_puts stage given) ≡ here.more = news_whole stage agent here.more given here.own new in
    let own = news_of_script stage agent here.more given here.own new in
    record {
      agent_is = alike.agent;
      looks = record {
        tries = looks.tries;
        rows = here.now ∙ ap (λ l. xs ++ l) (sym rows)
            ∙ sym (map-append (λ (put : Put). put.row) (whole_puts stage before) (whole_puts stage given));
        fronts = put_alike stage.script.ranks (puts_of (cells_of stage.layout) before) (whole_puts stage before)
            (puts_of (cells_of stage.layout) given) (whole_puts stage given) lows after
            (alike_whole stage before all) (alike_whole stage given own) looks.fronts;
      };
    }

pub lives_whole : (stage : Stage) (seed rank : ℕ) (agent : Agent) (known : List Given) (lows : Lows) →
    LivesAmong stage seed rank agent known lows → AllByRecursion (IsOfScript stage) known →
    Lives stage seed rank agent (whole_puts stage known) lows
lives_whole stage seed rank _ _ _ Begins all = whole.Begins
lives_whole stage seed rank _ _ _ (Looks agent known others given lows after life apart looks) all =
    let P = IsOfScript stage in
    let put = whole_put stage in
    let before : List Given = known ++ others in
    let known_before = each_front P before given all in
    let old = lives_whole stage seed rank agent known lows life (each_front P known others known_before) in
    let is = look_whole stage agent before given lows after known_before looks in
    let joined : whole_puts stage before ≡ whole_puts stage known ++ whole_puts stage others =
    map-append put known others in
    let lived : Lives stage seed rank
    (board_step stage agent (rows_put (whole_puts stage known ++ whole_puts stage others))).agent
    ((whole_puts stage known ++ whole_puts stage others) ++ whole_puts stage given) after =
    whole.Looks agent (whole_puts stage known) (whole_puts stage others) (whole_puts stage given) lows after old
    (others_whole stage rank others apart)
    (subst (λ (l : List Put). LooksAfter stage agent l lows (whole_puts stage given) after) joined is.looks) in
    let again : Lives stage seed rank (board_step stage agent (rows_put (whole_puts stage before))).agent
    (whole_puts stage before ++ whole_puts stage given) after =
    subst (λ (l : List Put). Lives stage seed rank (board_step stage agent (rows_put l)).agent
    (l ++ whole_puts stage given) after) (sym joined) lived in
    subst (λ (l : List Put). Lives stage seed rank (board_step stage agent (rows_given before)).agent l after)
    (sym (map-append put before given))
    (subst (λ (a : Agent). Lives stage seed rank a (whole_puts stage before ++ whole_puts stage given) after)
    is.agent_is again)
lives_whole stage seed rank _ _ _ (Steps agent next known lows after life tries made) all =
    whole.Steps agent next (whole_puts stage known) lows after
    (lives_whole stage seed rank agent known lows life all) tries made

-- ---- the end

pub waits_alike : (stage : Stage) (agent : Agent) (xs ys : List Row) → kept_rows xs ≡ kept_rows ys →
    board_step stage agent ys ≡ stay_waiting agent ys → board_step stage agent xs ≡ stay_waiting agent xs
waits_alike stage agent xs ys same waits =
    let alike = alike_step laws stage agent xs ys same in
    let here = board_adds stage agent xs in
    let rows : kept_rows xs ++ kept_rows here.more ≡ kept_rows xs ++ [] =
    sym (map-append kept_row xs here.more) ∙ ap kept_rows (sym here.now) ∙ alike.kept
    ∙ ap (λ (s : AtBoard). kept_rows s.rows) waits ∙ sym same ∙ sym (append-nil (kept_rows xs)) in
    let none : here.more ≡ [] = empty here.more (cancel (kept_rows xs) (kept_rows here.more) [] rows) in
    let now : (board_step stage agent xs).rows ≡ xs = here.now ∙ ap (λ l. xs ++ l) none ∙ append-nil xs in
    let agent_is = alike.agent ∙ ap (λ (s : AtBoard). s.agent) waits in
    let stays = alike.waits ∙ ap (λ (s : AtBoard). s.waits) waits in
    λ i. record { agent = agent_is i; rows = now i; waits = stays i }
  where
    empty : (rows : List Row) → kept_rows rows ≡ [] → rows ≡ []
    empty [] e = refl
    empty (row ∷ rows) e = absurd (cc e)

pub stops_whole : (stage : Stage) (agent : Agent) (entries : List Given) → AllByRecursion (IsOfScript stage) entries →
    Stops stage agent (rows_given entries) → Stops stage agent (rows_put (whole_puts stage entries))
stops_whole stage agent entries all (inl ended) = inl ended
stops_whole stage agent entries all (inr stuck) = inr (
  stuck.0,
  waits_alike stage agent (rows_put (whole_puts stage entries)) (rows_given entries) (rows_alike stage entries all)
      stuck.1,
)

-- a whole history
pub lived_whole : (stage : Stage) (seed rank : ℕ) (entries : List Given) (agent : Agent) →
    AllByRecursion (IsOfScript stage) entries → HasLivedAmong stage seed rank entries agent →
    HasLived stage seed rank (whole_puts stage entries) agent
lived_whole stage seed rank entries agent all lived =
    let life = lived.life in
    let parts = subst (AllByRecursion (IsOfScript stage)) life.all all in record {
      stopped = lived.stopped;
      known = whole_puts stage life.known;
      later = whole_puts stage life.later;
      lows = lived.lows;
      last = lived.last;
      life = lives_whole stage seed rank lived.stopped life.known lived.lows life.life
          (each_front (IsOfScript stage) life.known life.later parts);
      entries = ap (whole_puts stage) life.all ∙ map-append (whole_put stage) life.known life.later;
      apart = others_whole stage rank life.later life.apart;
      stops = stops_whole stage lived.stopped entries all lived.stops;
      drains = lived.drains;
      nothing_pending = lived.nothing_pending;
    }

-- a rank's entries among all are of the script
pub lived_own : (stage : Stage) (seed rank : ℕ) (entries : List Given) (agent : Agent) →
    HasLivedAmong stage seed rank entries agent → AllByRecursion (OwnIsOfScript stage rank) entries
lived_own stage seed rank entries agent lived =
    let life = lived.life in
    subst (AllByRecursion (OwnIsOfScript stage rank)) (sym life.all)
    (each_append (OwnIsOfScript stage rank) life.known life.later
    (lives_own stage seed rank lived.stopped life.known lived.lows life.life).1
    (each_other stage rank life.later life.apart))
