-- The statuses of a call: this project's profile.
use Rattle.std.specs.Prelude.{ℕ, ◌≡◌, ◌⊎◌}
use Rattle.run_texts.specs.Status.{all_is_well, something_is_wrong, rank_is_stuck}
use Rattle.run_texts.specs.Status.{script_refused, read_failed, write_failed, out_of_memory}

-- the status of a run whose report was written
abbrev pub IsRunStatus : ℕ → Type 0
IsRunStatus code = (code ≡ all_is_well) ⊎ ((code ≡ something_is_wrong) ⊎ (code ≡ rank_is_stuck))

-- a status of the call that reads a script and runs it in steps
abbrev pub IsStepStatus : ℕ → Type 0
IsStepStatus code = IsRunStatus code
    ⊎ ((code ≡ script_refused) ⊎ ((code ≡ read_failed) ⊎ ((code ≡ write_failed) ⊎ (code ≡ out_of_memory))))
