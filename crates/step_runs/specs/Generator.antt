-- The generator of draws: this project's profile.
use Rattle.std.specs.Prelude.{ℕ, ◌+◌, ◌*◌, ◌/◌, ◌%◌, ◌^◌}

-- the state with which a stream begins
abbrev pub first_state : ℕ → ℕ → ℕ
first_state seed stream = seed * 64 + stream

-- the state after a draw
abbrev pub next_state : ℕ → ℕ
next_state state = (state * 6364136223846793005 + 1442695040888963407) % 2 ^ 64

-- what a draw gives, from the state after it
abbrev pub drawn_from : ℕ → ℕ
drawn_from state = state / 2 ^ 33

-- the stream by which a rank's deliveries are drawn, and that of the order of the ranks
abbrev pub delivery_stream : ℕ → ℕ
delivery_stream rank = rank

abbrev pub order_stream : ℕ
order_stream = 16
