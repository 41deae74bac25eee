-- The two halves of a word, and what a step adds to them.
use Rattle.std.proofs.Common.{◌≡◌, ℕ, ◌+◌, ◌*◌, ◌/◌, ◌%◌, ◌<◌, arith}
use Rattle.cell_words.specs.Words.{word_of, seen_in}

-- what was put into a word is found there
pub seen_again : (bits place : ℕ) → place < 4294967296 →
    seen_in (word_of bits place) ≡ record { bits = bits; place = place }
seen_again bits place fits =
    let high : (bits * 4294967296 + place) / 4294967296 ≡ bits = omega arith in
    let low : (bits * 4294967296 + place) % 4294967296 ≡ place = omega arith in
    λ i. record { bits = high i; place = low i }

-- adding a number in the high half and 1 in the low half adds it to the bits, and 1 to the place
pub word_added : (bits place x : ℕ) → word_of bits place < 18446744073709551616 → place + 1 < 4294967296 →
    x < 4294967296 → (word_of bits place + word_of x 1) % 18446744073709551616 ≡
    word_of ((bits + x) % 4294967296) (place + 1)
word_added bits place x fits small less = omega arith
