-- The tests of a start and of a wait are those of the definitions.
use Rattle.std.proofs.Common.{◌≡◌, ℕ, List, [], refl, ap, sym, ◌∙◌, get_or, reverse}
use Rattle.std.specs.List.{list_all}
use Rattle.board_rules.specs.Posts.{start_has_posts, wait_has_completes, last_posted}
use Rattle.board_rules.specs.Questions.{Question}
use Rattle.sync_board.specs.Sides.{done, done_at, has_post_of, has_complete_of}

start_at : (q : Question) (group : List ℕ) → list_all (has_post_of (done_at q) q.rank) group ≡ start_has_posts q group
unfolding done
start_at q group = refl

pub is_start : (q : Question) (rank : ℕ) (group : List ℕ) → q.rank ≡ rank →
    list_all (has_post_of (done_at q) rank) group ≡ start_has_posts q group
is_start q rank group e = ap (λ r. list_all (has_post_of (done_at q) r) group) (sym e) ∙ start_at q group

last_at : (q : Question) → last_posted q ≡ get_or (reverse (done_at q q.rank).posts) 0 []
unfolding done
last_at q = refl

pub last_is : (q : Question) (rank : ℕ) → q.rank ≡ rank → last_posted q ≡ get_or (reverse (done_at q rank).posts) 0 []
last_is q rank e = last_at q ∙ ap (λ r. get_or (reverse (done_at q r).posts) 0 []) e

wait_at : (q : Question) → list_all (has_complete_of (done_at q) q.rank) (last_posted q) ≡ wait_has_completes q
unfolding done
wait_at q = refl

pub is_wait : (q : Question) (rank : ℕ) → q.rank ≡ rank → list_all (has_complete_of (done_at q) rank)
    (last_posted q) ≡ wait_has_completes q
is_wait q rank e = ap (λ r. list_all (has_complete_of (done_at q) r) (last_posted q)) (sym e) ∙ wait_at q
