use Rattle.std.proofs.Common.{◌≡◌, ◌≤◌, ℕ, Option, map, unwrap_or, arith}
use Rattle.script_reader.proofs.Keeping.{well_formed}
use Rattle.script_reader.proofs.readers.Reader.end.Goals as goal

pub returns-clause-well_formed : goal.returns-clause-well_formed
returns-clause-well_formed c =
    let spaces : c.in_ok-spaces.spaces ≡ map (λ (space : Option ℕ). unwrap_or space 0) c.args.self.draft.spaces = rw
    (← c.as_slice.ensures) c.in_ok-spaces.ensures in
    let some : 1 ≤ c.args.self.draft.ranks = omega arith in
    rw spaces (well_formed c.args.self.draft c.requires.sound some)
