-- The one canonical text of a script.
use Rattle.std.specs.Prelude.{ℕ, zero, suc, ◌+◌, List, [], ◌∷◌, ◌++◌}
use Rattle.std.specs.List.{flat_map}
use Rattle.rma_types.specs.declared.calls.Call.{Call as MpiCall}
use Rattle.rma_types.specs.declared.scripts.Script.{Script}
use Rattle.call_rules.specs.Text.{line, join_by_spaces}
use Rattle.script_language.specs.declared.fields.Fields.{Fields}
use Rattle.script_language.specs.declared.forms.Form.{Form}
use Rattle.script_language.specs.declared.forms.Form.TheVariants.{Ranks, Space, Rank, Call}
use Rattle.script_language.specs.Calls.{no_fields, form_of, fields_of}
use Rattle.script_language.specs.Forms.{word_of_form, places_of}
use Rattle.script_language.specs.Spelling.{spelling_of}

-- a line of a form: its word, and what stands at each of its places
abbrev pub form_line : Form → Fields → List ℕ
form_line form fields = line (join_by_spaces (word_of_form form ∷ flat_map (spelling_of fields) (places_of form)))

abbrev pub call_line : MpiCall → List ℕ
call_line call = form_line (Call (form_of call)) (fields_of call)

-- the line of each rank from this one on whose space is not 0
abbrev pub space_lines : ℕ → List ℕ → List ℕ
space_lines rank [] = []
space_lines rank (zero ∷ spaces) = space_lines (rank + 1) spaces
space_lines rank (suc bytes ∷ spaces) =
    form_line Space (record no_fields { owner = rank; room = suc bytes }) ++ space_lines (rank + 1) spaces

-- the lines of each rank from this one on that has a call
abbrev pub rank_lines : ℕ → List (List MpiCall) → List ℕ
rank_lines rank [] = []
rank_lines rank ([] ∷ lists) = rank_lines (rank + 1) lists
rank_lines rank ((call ∷ calls) ∷ lists) =
    form_line Rank (record no_fields { members = rank ∷ [] }) ++ flat_map call_line (call ∷ calls) ++ rank_lines
    (rank + 1) lists

-- the number of ranks, then their space, then their calls
unfoldable pub canon : Script → List ℕ
canon script =
    form_line Ranks (record no_fields { ranks = script.ranks }) ++ space_lines 0 script.spaces ++ rank_lines 0
    script.calls
