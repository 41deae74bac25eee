-- The lines about a rank's calls, call by call.
use Rattle.std.proofs.Common.{◌≡◌, ℕ, ◌+◌, ◌<◌, inl, inr, List, [], ◌∷◌, ◌++◌, length, map, refl, ap, sym, ◌∙◌, Bool}
use Rattle.std.proofs.Common.{true, false, cond, arith}
use Rattle.std.specs.Prelude.{Option, Some, None, ◌==◌, nat_lt, if◌then◌else◌, slice_get, codes}
use Rattle.std.specs.List.{filter, flat_map, enumerate_from}
use Rattle.std.specs.Option.{option_map_or}
use Rattle.std.proofs.lemmas.Bool.{ne_eqb, eq-eqb, ltb-true, cases_eq}
use Rattle.std.proofs.lemmas.List.{append_assoc, append-nil}
use Rattle.std.proofs.lemmas.List.Concat.{flat_map-append}
use Rattle.std.proofs.lemmas.List.Elements.{filter-append}
use Rattle.rma_types.specs.declared.accesses.Access.{Access}
use Rattle.rma_types.specs.declared.calls.Call.{Call}
use Rattle.rma_types.specs.declared.dtypes.Dtype.{Dtype}
use Rattle.rma_record.specs.declared.items.Item.{Item}
use Rattle.rma_record.specs.declared.items.Item.TheVariants.{Issue, Null, Touch, Flush, Request, Entry, Tested, Refused}
use Rattle.rma_record.specs.declared.items.Item.TheVariants.{Ended}
use Rattle.rma_types.specs.declared.actions.Transfer.{Transfer}
use Rattle.rma_types.specs.Actions.{transfer_of, is_testwin}
use Rattle.call_rules.specs.Pieces.{numbers_from}
use Rattle.call_rules.specs.Text.{integer, number}
use Rattle.lawful_runs.specs.Accesses.{transfer_at}
use Rattle.lawful_runs.specs.Items.{belongs_to, is_touch_of}
use Rattle.run_report.specs.Chains.{chain_of_number, is_in, links}
use Rattle.run_report.specs.Parts.{fetches_as, item_lines, lines_of_call, number_found, numbers_found, said_lines}
use Rattle.run_report.specs.Parts.{waiting_lines}
use Rattle.run_report.proofs.Asked.{in_chain_of_call}
use Rattle.run_report.proofs.Lists.{join_is}
use Rattle.run_texts.specs.Answers.{Answer, answers, fetched_integer, fetched_word, fetched_words, item_answers, say}
use Rattle.run_texts.specs.Answers.{standing_call, wait_answer}
use Rattle.run_texts.specs.Report.{answer_line, call_name, lines_of_calls}

-- ---- what is said of a call

abbrev of_call : ℕ → List Answer → List Answer
of_call call all = filter (λ (a : Answer). a.call == call) all

-- what an item says is said of the call to which it belongs
said_of_its_own : (calls : List Call) (log : List Item) (call index : ℕ) (item : Item)
    → of_call call (item_answers calls log index item)
    ≡ cond (belongs_to call item) (item_answers calls log index item) []
said_of_its_own calls log call index (Issue number access) = by (transfer_at calls number)
  where
    empty : (b : Bool) → of_call call [] ≡ cond b [] []
    empty true = refl
    empty false = refl

    whether : (dtype : Dtype) (b : Bool) →
        of_call call (if b then say number (codes "value" ∷ fetched_words log index access dtype) else [])
        ≡ cond (number == call) (if b then say number (codes "value" ∷ fetched_words log index access dtype) else []) []
    whether dtype true = refl
    whether dtype false = empty (number == call)

    by : (o : Option Transfer) → (let says : List Answer = option_map_or (λ (t : Transfer).
        if t.fetches then say number (codes "value" ∷ fetched_words log index access t.dtype) else []) o [] in
        of_call call says ≡ cond (number == call) says [])
    by None = empty (number == call)
    by (Some t) = whether t.dtype t.fetches
said_of_its_own calls log call index (Null number) = none (number == call)
  where
    none : (b : Bool) → of_call call [] ≡ cond b [] []
    none true = refl
    none false = refl
said_of_its_own calls log call index (Touch issue element cell place bits) = refl
said_of_its_own calls log call index (Flush number) = none (number == call)
  where
    none : (b : Bool) → of_call call [] ≡ cond b [] []
    none true = refl
    none false = refl
said_of_its_own calls log call index (Request number) = none (number == call)
  where
    none : (b : Bool) → of_call call [] ≡ cond b [] []
    none true = refl
    none false = refl
said_of_its_own calls log call index (Entry number place step) = by (slice_get calls number)
  where
    empty : (b : Bool) → of_call call [] ≡ cond b [] []
    empty true = refl
    empty false = refl

    whether : (b : Bool) → of_call call (if b then say number (codes "test" ∷ codes "true" ∷ []) else [])
        ≡ cond (number == call) (if b then say number (codes "test" ∷ codes "true" ∷ []) else []) []
    whether true = refl
    whether false = empty (number == call)

    by : (o : Option Call) → (let says : List Answer = option_map_or (λ tested.
        if is_testwin tested then say number (codes "test" ∷ codes "true" ∷ []) else []) o [] in
        of_call call says ≡ cond (number == call) says [])
    by None = empty (number == call)
    by (Some tested) = whether (is_testwin tested)
said_of_its_own calls log call index (Tested number seen) = refl
said_of_its_own calls log call index (Refused number class seen) = refl
said_of_its_own calls log call index Ended = refl

said_from : (rank : ℕ) (calls : List Call) (log : List Item) (call index : ℕ) (items : List Item) → call < length calls
    → flat_map (answer_line rank) (of_call call
    (flat_map (λ one. item_answers calls log one.0 one.1) (enumerate_from index items)))
    ≡ flat_map (λ one. item_lines rank calls log one.0 one.1) (links (length calls) call index items)
said_from rank calls log call index [] h = refl
said_from rank calls log call index (item ∷ items) h =
    ap (flat_map (answer_line rank)) (filter-append (λ (a : Answer). a.call == call)
    (item_answers calls log index item) later)
    ∙ flat_map-append (answer_line rank) (of_call call (item_answers calls log index item)) (of_call call later)
    ∙ ap (λ own. flat_map (answer_line rank) own
    ++ flat_map (answer_line rank) (of_call call later)) (said_of_its_own calls log call index item)
    ∙ ap (λ b. flat_map (answer_line rank) (cond b (item_answers calls log index item) [])
    ++ flat_map (answer_line rank) (of_call call later))
    (sym (in_chain_of_call (length calls) call item h))
    ∙ by (is_in (length calls) call item) (said_from rank calls log call (index + 1) items h)
  where
    later : List Answer
    later = flat_map (λ one. item_answers calls log one.0 one.1) (enumerate_from (index + 1) items)

    rest : List (ℕ × Item)
    rest = links (length calls) call (index + 1) items

    lines : ℕ × Item → List ℕ
    lines one = item_lines rank calls log one.0 one.1

    by : (b : Bool) → flat_map (answer_line rank) (of_call call later) ≡ flat_map lines rest
        → flat_map (answer_line rank) (cond b (item_answers calls log index item) [])
        ++ flat_map (answer_line rank) (of_call call later)
        ≡ flat_map lines (cond b ((index, item) ∷ rest) rest)
    by true e = ap (λ t. item_lines rank calls log index item ++ t) e
    by false e = e

waits_where : (rank : ℕ) (calls : List Call) (stands : Option ℕ) (call : ℕ)
    → flat_map (answer_line rank) (of_call call (wait_answer calls stands)) ≡ waiting_lines rank calls stands call
waits_where rank calls None call = refl
waits_where rank calls (Some at) call = by (at == call)
  where
    by : (b : Bool) → flat_map (answer_line rank) (cond b (wait_answer calls (Some at)) [])
        ≡ (if b then flat_map (answer_line rank) (wait_answer calls (Some at)) else [])
    by true = refl
    by false = refl

-- the lines of a call are those of its chain, and then that of its waiting
pub lines_are : (rank : ℕ) (calls : List Call) (log : List Item) (call : ℕ) → call < length calls
    → flat_map (answer_line rank) (of_call call (answers calls log))
    ≡ lines_of_call rank calls log (standing_call calls log) call
lines_are rank calls log call h =
    let all = flat_map (λ one. item_answers calls log one.0 one.1) (enumerate_from 0 log) in
    let last = wait_answer calls (standing_call calls log) in
    ap (flat_map (answer_line rank)) (filter-append (λ (a : Answer). a.call == call) all last)
    ∙ flat_map-append (answer_line rank) (of_call call all) (of_call call last)
    ∙ ap (λ t. t ++ flat_map (answer_line rank) (of_call call last)) (said_from rank calls log call 0 log h)
    ∙ ap (λ t. said_lines rank calls log call ++ t) (waits_where rank calls (standing_call calls log) call)

-- ---- what an access fetched

-- no number of a call leads to the chain of an access
elsewhere : (calls index number : ℕ)
    → option_map_or (λ other. other == calls + index) (chain_of_number calls (Some number)) false ≡ false
elsewhere calls index number = by (nat_lt number calls) refl
  where
    by : (b : Bool) → nat_lt number calls ≡ b
        → option_map_or (λ other. other == calls + index) (if b then Some number else None) false ≡ false
    by true e = let within = ltb-true number calls e in ne_eqb number (calls + index) (λ same. omega arith)
    by false e = refl

-- a call that fetches says so
fetch_case : (o : Option Transfer) (dtype : Dtype) (F : Dtype → List Answer)
    → Some dtype ≡ option_map_or (λ (t : Transfer). if t.fetches then Some t.dtype else None) o None
    → option_map_or (λ (t : Transfer). if t.fetches then F t.dtype else []) o [] ≡ F dtype
fetch_case None dtype F e = cc
fetch_case (Some t) dtype F e = by t.fetches e
  where
    by : (b : Bool) → Some dtype ≡ (if b then Some t.dtype else None) → (if b then F t.dtype else []) ≡ F dtype
    by true e = let e' : dtype ≡ t.dtype = cc in ap F (sym e')
    by false e = cc

-- no item but its touches is in the chain of an access
touches_in_chain : (calls index : ℕ) (item : Item) → is_in calls (calls + index) item ≡ is_touch_of index item
touches_in_chain calls index (Issue number access) = elsewhere calls index number
touches_in_chain calls index (Null number) = elsewhere calls index number
touches_in_chain calls index (Touch issue element cell place bits) = elim (cases_eq issue index) [
  | inl same ↦ eq-eqb (calls + issue) (calls + index) (ap (λ n. calls + n) same) ∙ sym (eq-eqb issue index same)
  | inr apart ↦ ne_eqb (calls + issue) (calls + index) (λ e. apart (omega arith)) ∙ sym (ne_eqb issue index apart)
]
touches_in_chain calls index (Flush number) = elsewhere calls index number
touches_in_chain calls index (Request number) = elsewhere calls index number
touches_in_chain calls index (Entry number place step) = elsewhere calls index number
touches_in_chain calls index (Tested number seen) = elsewhere calls index number
touches_in_chain calls index (Refused number class seen) = elsewhere calls index number
touches_in_chain calls index Ended = refl

-- a touch's number is what its word says, and no other item is one
found_is : (access : Access) (dtype : Dtype) (index : ℕ) (item : Item) → is_touch_of index item ≡ true
    → number_found access dtype item ≡ 32 ∷ fetched_word access dtype item
found_is access dtype index (Touch issue element cell place bits) e = refl
found_is access dtype index (Issue number one) e = cc
found_is access dtype index (Null number) e = cc
found_is access dtype index (Flush number) e = cc
found_is access dtype index (Request number) e = cc
found_is access dtype index (Entry number place step) e = cc
found_is access dtype index (Tested number seen) e = cc
found_is access dtype index (Refused number class seen) e = cc
found_is access dtype index Ended e = cc

-- the numbers of the chain are the words of the touches
numbers_are : (access : Access) (dtype : Dtype) (calls index place : ℕ) (items : List Item)
    → flat_map (λ one. number_found access dtype one.1) (links calls (calls + index) place items)
    ≡ flat_map (λ word. 32 ∷ word) (map (fetched_word access dtype) (filter (is_touch_of index) items))
numbers_are access dtype calls index place [] = refl
numbers_are access dtype calls index place (item ∷ items) =
    ap (λ b. flat_map (λ one. number_found access dtype one.1) (cond b ((place, item) ∷ rest) rest))
    (touches_in_chain calls index item)
    ∙ by (is_touch_of index item) refl (numbers_are access dtype calls index (place + 1) items)
  where
    rest : List (ℕ × Item)
    rest = links calls (calls + index) (place + 1) items

    touches : List Item
    touches = filter (is_touch_of index) items

    by : (b : Bool) → is_touch_of index item ≡ b
        → flat_map (λ one. number_found access dtype one.1) rest
        ≡ flat_map (λ word. 32 ∷ word) (map (fetched_word access dtype) touches)
        → flat_map (λ one. number_found access dtype one.1) (cond b ((place, item) ∷ rest) rest)
        ≡ flat_map (λ word. 32 ∷ word) (map (fetched_word access dtype) (cond b (item ∷ touches) touches))
    by true e more =
        ap (λ t. t ++ flat_map (λ one. number_found access dtype one.1) rest) (found_is access dtype index item e)
        ∙ ap (λ t. (32 ∷ fetched_word access dtype item) ++ t) more
    by false e more = more

-- the line of an access that fetched
value_line : (rank call calls index : ℕ) (access : Access) (dtype : Dtype) (log : List Item)
    → answer_line rank (record { call = call; words = codes "value" ∷ fetched_words log index access dtype })
    ≡ (call_name rank call ++ (32 ∷ codes "value" ++ numbers_found access dtype calls index log)) ++ 10 ∷ []
value_line rank call calls index access dtype log =
    ap (λ t. (call_name rank call ++ 32 ∷ t) ++ 10 ∷ [])
    (join_is 32 (codes "value") (fetched_words log index access dtype)
    ∙ ap (λ t. codes "value" ++ t) (sym (numbers_are access dtype calls index 0 log)))

pub value_written : (text written numbered whole : List ℕ) (rank call calls index : ℕ) (access : Access)
    (dtype : Dtype) (log : List Item)
    → written ≡ text ++ (number rank ++ (58 ∷ (number call ++ (32 ∷ codes "value"))))
    → numbered ≡ written ++ numbers_found access dtype calls index log
    → whole ≡ numbered ++ 10 ∷ []
    → whole ≡ text ++ answer_line rank
    (record { call = call; words = codes "value" ∷ fetched_words log index access dtype })
value_written text written numbered whole rank call calls index access dtype log w n t =
    rw t (rw n (rw w (rw (value_line rank call calls index access dtype log) (simp append_assoc))))

-- what the Issue of a call that fetches says
pub issue_says : (rank call index : ℕ) (access : Access) (dtype : Dtype) (calls : List Call) (made : Call)
    (log : List Item)
    → Some made ≡ slice_get calls call → Some dtype ≡ fetches_as made
    → answer_line rank (record { call = call; words = codes "value" ∷ fetched_words log index access dtype })
    ≡ item_lines rank calls log index (Issue call access)
issue_says rank call index access dtype calls made log e f =
    let F : Dtype → List Answer = λ dtype. say call (codes "value" ∷ fetched_words log index access dtype) in
    let made_is : transfer_at calls call
    ≡ transfer_of made = ap (λ (o : Option Call). option_map_or transfer_of o None) (sym e) in
    let says = fetch_case (transfer_at calls call) dtype F
    (f ∙ ap (λ (o : Option Transfer). option_map_or
    (λ (t : Transfer). if t.fetches then Some t.dtype else None) o None) (sym made_is)) in
    sym (ap (flat_map (answer_line rank)) says ∙ append-nil _)
