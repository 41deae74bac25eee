-- Counts of faults: when a failure may be reported.
use Rattle.std.specs.Prelude.{◌≡◌, ℕ, ◌+◌, ◌-◌, ◌^◌, ◌<◌, ◌⊎◌, min}

-- a count rose, or stands at its last value
abbrev pub Rose : ℕ → ℕ → Type 0
Rose old new = (old < new) ⊎ (new ≡ 2 ^ 64 - 1)

-- a count after one more, which stands still at its last value
abbrev pub counted : ℕ → ℕ
counted count = min (count + 1) (2 ^ 64 - 1)
