-- What the items of a call's chain say of the call is what the whole log says of it.
use Rattle.std.proofs.Common.{◌≡◌, ℕ, ◌+◌, ◌<◌, ◌≤◌, ◌⊎◌, inl, inr, List, [], ◌∷◌, ◌++◌, length, drop, map, refl, ap}
use Rattle.std.proofs.Common.{sym, ◌∙◌, subst, Bool, true, false, cond, arith}
use Rattle.std.specs.Prelude.{Option, Some, None, ◌==◌, ◌||◌, nat_lt, if◌then◌else◌, slice_get, not, codes}
use Rattle.std.specs.List.{filter, flat_map, list_any, enumerate_from}
use Rattle.std.specs.Option.{option_map_or}
use Rattle.std.proofs.lemmas.Bool.{ne_eqb, ltb-false}
use Rattle.std.proofs.lemmas.List.{append_assoc, append-nil}
use Rattle.rma_types.specs.declared.calls.Call.{Call}
use Rattle.rma_record.specs.declared.items.Item.{Item}
use Rattle.rma_record.specs.declared.items.Item.TheVariants.{Issue, Null, Touch, Flush, Request, Entry, Tested, Refused}
use Rattle.rma_record.specs.declared.items.Item.TheVariants.{Ended}
use Rattle.lawful_runs.specs.Items.{belongs_to}
use Rattle.rank_rules.specs.Knowledge.{ends_call}
use Rattle.run_report.specs.Chains.{Leads, chain_of_number, is_in, links}
use Rattle.run_report.proofs.Walks.{Asks}
use Rattle.run_texts.specs.Answers.{ends}

-- the chain of the number of a call
number_in_chain : (calls chain number : ℕ) → chain < calls
    → option_map_or (λ other. other == chain) (chain_of_number calls (Some number)) false ≡ (number == chain)
number_in_chain calls chain number h = by (nat_lt number calls) refl
  where
    by : (b : Bool) → nat_lt number calls ≡ b
        → option_map_or (λ other. other == chain) (if b then Some number else None) false ≡ (number == chain)
    by true e = refl
    by false e = let past = ltb-false number calls e in sym (ne_eqb number chain (λ same. omega arith))

-- the chain of a call has the items that belong to it
pub in_chain_of_call : (calls chain : ℕ) (item : Item) → chain < calls → is_in calls chain item ≡ belongs_to chain item
in_chain_of_call calls chain (Issue number access) h = number_in_chain calls chain number h
in_chain_of_call calls chain (Null number) h = number_in_chain calls chain number h
in_chain_of_call calls chain (Touch issue element cell place bits) h = ne_eqb (calls + issue) chain
    (λ same. omega arith)
in_chain_of_call calls chain (Flush number) h = number_in_chain calls chain number h
in_chain_of_call calls chain (Request number) h = number_in_chain calls chain number h
in_chain_of_call calls chain (Entry number place step) h = number_in_chain calls chain number h
in_chain_of_call calls chain (Tested number seen) h = number_in_chain calls chain number h
in_chain_of_call calls chain (Refused number class seen) h = number_in_chain calls chain number h
in_chain_of_call calls chain Ended h = refl

-- ---- whether a call is ended

-- an item ends no call but the one to which it belongs
ends_its_own : (calls : List Call) (call : ℕ) (item : Item) → belongs_to call item ≡ false
    → ends calls call item ≡ false
ends_its_own calls call (Issue number access) e = e
ends_its_own calls call (Null number) e = e
ends_its_own calls call (Touch issue element cell place bits) e = refl
ends_its_own calls call (Flush number) e = e
ends_its_own calls call (Request number) e = e
ends_its_own calls call (Entry number place step) e = by (slice_get calls number)
  where
    whether : (b : Bool) → option_map_or (λ other. other == call) (if b then Some number else None) false ≡ false
    whether true = e
    whether false = refl

    by : (o : Option Call) → option_map_or (λ other. other == call)
        (option_map_or (λ (entered : Call). if ends_call step entered then Some number else None) o None) false ≡ false
    by None = refl
    by (Some entered) = whether (ends_call step entered)
ends_its_own calls call (Tested number seen) e = e
ends_its_own calls call (Refused number class seen) e = e
ends_its_own calls call Ended e = refl

any_kept : (test p : Item → Bool) (index : ℕ) (items : List Item) → ((item : Item) → p item ≡ false → test item ≡ false)
    → list_any (λ one. test one.1) (filter (λ one. p one.1) (enumerate_from index items)) ≡ list_any test items
any_kept test p index [] none = refl
any_kept test p index (item ∷ items) none = by (p item) refl (any_kept test p (index + 1) items none)
  where
    rest : List (ℕ × Item)
    rest = filter (λ one. p one.1) (enumerate_from (index + 1) items)

    by : (b : Bool) → p item ≡ b → list_any (λ one. test one.1) rest ≡ list_any test items
        → list_any (λ one. test one.1) (cond b ((index, item) ∷ rest) rest) ≡ (test item || list_any test items)
    by true e more = ap (λ b. test item || b) more
    by false e more = more ∙ ap (λ b. b || list_any test items) (sym (none item e))

pub begins_asking : (calls : List Call) (log : List Item) (next : List ℕ) (at begin call : ℕ) → call < length calls
    → at ≡ begin
    → Leads log next 0 begin (links (length calls) call 0 log)
    → Asks log next (ends calls call) at (list_any (ends calls call) log)
begins_asking calls log next at begin call h e l =
    let P : ℕ → Type 0 = λ place. Leads log next 0 place (links (length calls) call 0 log) in
    record {
      low = 0;
      ones = links (length calls) call 0 log;
      leads = subst P (sym e) l;
      rest = any_kept (ends calls call) (is_in (length calls) call) 0 log
          (λ item none. ends_its_own calls call item (sym (in_chain_of_call (length calls) call item h) ∙ none));
    }
