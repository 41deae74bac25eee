use Rattle.std.proofs.Common.{◌≡◌, ℕ, map, take, Option, unwrap_or}
use Rattle.script_reader.proofs.readers.space_bytes.Given as goal

abbrev pub invariant-loop-space : goal.invariant-loop-space
invariant-loop-space l = l.bytes ≡ map (λ (space : Option ℕ). unwrap_or space 0) (take l.space-index l.spaces)
