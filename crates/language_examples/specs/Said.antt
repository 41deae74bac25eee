-- What is said of texts, which are given by their lines.
use Rattle.std.specs.Prelude.{◌≡◌, ℕ, List, [], ◌∷◌, map, length, replicate, codes, Err}
use Rattle.std.specs.List.{flat_map, concat}
use Rattle.rma_types.specs.declared.calls.Call.{Call}
use Rattle.rma_types.specs.declared.scripts.Script.{Script}
use Rattle.call_rules.specs.Text.{line}
use Rattle.script_language.specs.declared.faults.Fault.{Fault}
use Rattle.script_language.specs.declared.faults.FaultKind.{FaultKind}
use Rattle.script_language.specs.Canon.{canon}
use Rattle.script_language.specs.Reading.{Reads, read}

-- the text of lines, each of which ends with a line feed
abbrev pub text_of : List (List ℕ) → List ℕ
text_of lines = flat_map line lines

-- a script without space
abbrev pub script : List (List Call) → Script
script lists = record { ranks = length lists; spaces = map (λ (list : List Call). 0) lists; calls = lists }

-- the lines say the script
abbrev pub Say : List (List ℕ) → Script → Type 0
Say lines said = Reads (text_of lines) said

-- the lines are the canonical text of the script, and say it
abbrev pub AreCanonical : List (List ℕ) → Script → Type 0
AreCanonical lines said = (canon said ≡ text_of lines) × Say lines said

-- a text with the line and the kind of its first fault
pub record Faulty : Type 0 where
  pub text : List ℕ
  pub fault : Fault

-- lines with the line and the kind of their first fault
abbrev pub fails : List (List ℕ) → ℕ → FaultKind → Faulty
fails lines at kind = record { text = text_of lines; fault = record { line = at; kind = kind } }

-- the line of a call with the kind of its fault, as the third line of a text of two ranks
abbrev pub call_fails : List ℕ → FaultKind → Faulty
call_fails call kind = fails (codes "ranks 2" ∷ codes "rank 0" ∷ call ∷ []) 3 kind

-- these are their first faults
abbrev pub Fail : List Faulty → Type 0
Fail texts = map (λ faulty. read faulty.text) texts ≡ map (λ faulty. Err faulty.fault) texts

-- as many copies of the bytes
abbrev pub copies : ℕ → List ℕ → List ℕ
copies many bytes = concat (replicate many bytes)
