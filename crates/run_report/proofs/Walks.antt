-- A walk along a chain: what it writes, and what it asks.
use Rattle.std.proofs.Common.{◌≡◌, ℕ, ◌+◌, ◌<◌, ◌≤◌, List, [], ◌∷◌, ◌++◌, length, get_or, refl, ap, sym, ◌∙◌, subst}
use Rattle.std.proofs.Common.{Bool, true, false, arith}
use Rattle.std.specs.Prelude.{Some, ◌||◌, slice_get}
use Rattle.std.specs.List.{flat_map, list_any}
use Rattle.std.proofs.lemmas.List.{append_assoc, append-nil}
use Rattle.std.proofs.lemmas.Option.{slice_get-get_or}
use Rattle.rma_record.specs.declared.items.Item.{Item}
use Rattle.run_report.specs.Chains.{Leads}

-- what the items from a place on say, behind the text, is the whole
pub record Writes (log : List Item) (next : List ℕ) (f : ℕ × Item
    → List ℕ) (at : ℕ) (text : List ℕ) (whole : List ℕ) : Type 0 where
  pub low : ℕ
  pub ones : List (ℕ × Item)
  pub leads : Leads log next low at ones
  pub rest : text ++ flat_map f ones ≡ whole

pub begins_writing : (log : List Item) (next : List ℕ) (f : ℕ × Item
    → List ℕ) (at begin : ℕ) (text : List ℕ) (ones : List (ℕ × Item))
    → at ≡ begin → Leads log next 0 begin ones → Writes log next f at text (text ++ flat_map f ones)
begins_writing log next f at begin text ones e l =
    let P : ℕ → Type 0 = λ place. Leads log next 0 place ones in
    record { low = 0; ones = ones; leads = subst P (sym e) l; rest = refl }

step_in : (log : List Item) (next : List ℕ) (f : ℕ × Item
    → List ℕ) (low at : ℕ) (item : Item) (text more whole : List ℕ) (ones : List (ℕ × Item))
    → Leads log next low at ones → text ++ flat_map f ones ≡ whole → at < length log → slice_get log at ≡ Some item
    → more ≡ text ++ f (at, item)
    → Writes log next f (get_or next at 0) more whole
step_in log next f low at item text more whole [] l e h s w = absurd (omega arith)
step_in log next f low at item text more whole (one ∷ ones) l e h s w =
    let same : item ≡ one.1 = let a = l.3 in cc in
    let here : f (at, item) ≡ f one = ap (λ x. f (at, x)) same ∙ ap (λ k. f (k, one.1)) l.0 in
    record {
      low = at + 1;
      ones = ones;
      leads = l.4;
      rest = ap (λ t. t ++ flat_map f ones) (w ∙ ap (λ t. text ++ t) here)
          ∙ append_assoc text (f one) (flat_map f ones) ∙ e;
    }

-- the walk goes on behind an item
pub goes_on_writing : (log : List Item) (next : List ℕ) (f : ℕ × Item
    → List ℕ) (at further : ℕ) (item : Item) (text more whole : List ℕ)
    → Writes log next f at text whole → at < length log → more ≡ text ++ f (at, get_or log at item)
    → further ≡ get_or next at 0
    → Writes log next f further more whole
goes_on_writing log next f at further item text more whole w h e n =
    let P : ℕ → Type 0 = λ place. Writes log next f place more whole in
    subst P (sym n) (step_in log next f w.low at (get_or log at item) text more whole w.ones w.leads w.rest h
    (slice_get-get_or log at item h) e)

end_of : (log : List Item) (next : List ℕ) (f : ℕ × Item
    → List ℕ) (low at : ℕ) (text whole : List ℕ) (ones : List (ℕ × Item))
    → Leads log next low at ones → text ++ flat_map f ones ≡ whole → length log ≤ at → text ≡ whole
end_of log next f low at text whole [] l e h = sym (append-nil text) ∙ e
end_of log next f low at text whole (one ∷ ones) l e h = let within = l.2 in absurd (omega arith)

-- the walk ends past the log
pub ends_writing : (log : List Item) (next : List ℕ) (f : ℕ × Item → List ℕ) (at : ℕ) (text whole : List ℕ)
    → Writes log next f at text whole → length log ≤ at → text ≡ whole
ends_writing log next f at text whole w h = end_of log next f w.low at text whole w.ones w.leads w.rest h

below_next : (log : List Item) (next : List ℕ) (low at : ℕ) (ones : List (ℕ × Item)) → low ≤ length log
    → Leads log next low at ones → low ≤ at
below_next log next low at [] h l = omega arith
below_next log next low at (one ∷ ones) h l = l.1

rises_in : (log : List Item) (next : List ℕ) (low at : ℕ) (ones : List (ℕ × Item)) → Leads log next low at ones
    → at < length log → at < get_or next at 0
rises_in log next low at [] l h = absurd (omega arith)
rises_in log next low at (one ∷ ones) l h = let up = below_next log next (at + 1) (get_or next at 0) ones
    (omega arith) l.4 in omega arith

-- the next place is a later one
pub rises_writing : (log : List Item) (next : List ℕ) (f : ℕ × Item → List ℕ) (at : ℕ) (text whole : List ℕ)
    → Writes log next f at text whole → at < length log → at < get_or next at 0
rises_writing log next f at text whole w h = rises_in log next w.low at w.ones w.leads h

-- ---- a test

-- whether an item from a place on passes the test decides
pub record Asks (log : List Item) (next : List ℕ) (test : Item → Bool) (at : ℕ) (whole : Bool) : Type 0 where
  pub low : ℕ
  pub ones : List (ℕ × Item)
  pub leads : Leads log next low at ones
  pub rest : list_any (λ one. test one.1) ones ≡ whole

ask_in : (log : List Item) (next : List ℕ) (test : Item
    → Bool) (low at : ℕ) (item : Item) (whole : Bool) (ones : List (ℕ × Item))
    → Leads log next low at ones → list_any (λ one. test one.1) ones ≡ whole → at < length log
    → slice_get log at ≡ Some item → test item ≡ false
    → Asks log next test (get_or next at 0) whole
ask_in log next test low at item whole [] l e h s t = absurd (omega arith)
ask_in log next test low at item whole (one ∷ ones) l e h s t =
    let same : one.1 ≡ item = let a = l.3 in cc in
    record {
      low = at + 1;
      ones = ones;
      leads = l.4;
      rest = ap (λ b. b || list_any (λ one. test one.1) ones) (sym (ap test same ∙ t)) ∙ e;
    }

pub goes_on_asking : (log : List Item) (next : List ℕ) (test : Item
    → Bool) (at further : ℕ) (item : Item) (whole : Bool)
    → Asks log next test at whole → at < length log → test (get_or log at item) ≡ false → further ≡ get_or next at 0
    → Asks log next test further whole
goes_on_asking log next test at further item whole w h t n =
    let P : ℕ → Type 0 = λ place. Asks log next test place whole in
    subst P (sym n) (ask_in log next test w.low at (get_or log at item) whole w.ones w.leads w.rest h
    (slice_get-get_or log at item h) t)

found_in : (log : List Item) (next : List ℕ) (test : Item
    → Bool) (low at : ℕ) (item : Item) (whole : Bool) (ones : List (ℕ × Item))
    → Leads log next low at ones → list_any (λ one. test one.1) ones ≡ whole → at < length log
    → slice_get log at ≡ Some item → test item ≡ true → true ≡ whole
found_in log next test low at item whole [] l e h s t = absurd (omega arith)
found_in log next test low at item whole (one ∷ ones) l e h s t =
    let same : one.1 ≡ item = let a = l.3 in cc in
    ap (λ b. b || list_any (λ one. test one.1) ones) (sym (ap test same ∙ t)) ∙ e

pub found_asking : (log : List Item) (next : List ℕ) (test : Item → Bool) (at : ℕ) (item : Item) (whole : Bool)
    → Asks log next test at whole → at < length log → test (get_or log at item) ≡ true → true ≡ whole
found_asking log next test at item whole w h t =
    found_in log next test w.low at (get_or log at item) whole w.ones w.leads w.rest h
    (slice_get-get_or log at item h) t

none_in : (log : List Item) (next : List ℕ) (test : Item → Bool) (low at : ℕ) (whole : Bool) (ones : List (ℕ × Item))
    → Leads log next low at ones → list_any (λ one. test one.1) ones ≡ whole → length log ≤ at → false ≡ whole
none_in log next test low at whole [] l e h = e
none_in log next test low at whole (one ∷ ones) l e h = let within = l.2 in absurd (omega arith)

pub ends_asking : (log : List Item) (next : List ℕ) (test : Item → Bool) (at : ℕ) (whole : Bool)
    → Asks log next test at whole → length log ≤ at → false ≡ whole
ends_asking log next test at whole w h = none_in log next test w.low at whole w.ones w.leads w.rest h

pub rises_asking : (log : List Item) (next : List ℕ) (test : Item → Bool) (at : ℕ) (whole : Bool)
    → Asks log next test at whole → at < length log → at < get_or next at 0
rises_asking log next test at whole w h = rises_in log next w.low at w.ones w.leads h
