use Rattle.std.proofs.Common.{◌≡◌, ◌≤◌, ◌<◌, ℕ, List, length, get_or, set, ◌∙◌, sym, arith}
use Rattle.std.proofs.lemmas.List.{get_or_default}
use Rattle.run_report.specs.Chains.{AreChains}
use Rattle.run_report.proofs.Links.{put_none, put_past, put_some}
use Rattle.run_report.proofs.chains.Chains.put.Goals as goal

pub returns-then-chain-len : goal.returns-then-chain-len
returns-then-chain-len c =
    let within : c.in-Some.chain < length c.args.self.now.first.items = omega (arith, c.len.ensures) in
    put_some _ _ _ _ _ _ _ _ c.requires.at c.in-Some.ensures within
    (c.index.ensures ∙ get_or_default c.args.self.now.first.items c.in-Some.chain _ 0 within) c.requires.chains

pub returns-else-chain-len : goal.returns-else-chain-len
returns-else-chain-len c =
    let past : length c.args.self.now.first.items ≤ c.in-Some.chain = omega (arith, c.len.ensures) in
    put_past _ _ _ _ _ _ _ c.requires.at c.in-Some.ensures past c.requires.chains

pub returns-in_default : goal.returns-in_default
returns-in_default c = put_none _ _ _ _ _ _ c.requires.at (sym c.in_default.ensures) c.requires.chains
