-- How many windows of each name a rank has made.
use Rattle.std.specs.Prelude.{ℕ, ◌≡◌, ◌<◌, ◌+◌, ◌^◌, ◌==◌, List, length, slice_index, slice_set, nat_lt, if◌then◌else◌}
use Rattle.std.specs.List.{count_by}

-- few enough that the number of the next window is below 2 to 32
abbrev pub AreFewRounds : List ℕ → Type 0
AreFewRounds rounds = (win : ℕ) → win < 32 → slice_index rounds win < 2 ^ 27

-- one window more of this name
abbrev pub with_round : List ℕ → ℕ → List ℕ
with_round rounds win = if nat_lt win 32 then slice_set rounds win (slice_index rounds win + 1) else rounds

-- for each of the names w0 to w31, how often it stands among those of the windows made
pub record AreRounds (created rounds : List ℕ) : Type 0 where
  pub length : length rounds ≡ 32
  pub counts : (win : ℕ) → win < 32 → slice_index rounds win ≡ count_by (λ name. name == win) created
  pub few : AreFewRounds rounds
