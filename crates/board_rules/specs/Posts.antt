-- Posts, starts, completes and waits: MPI 3.1, section 11.5.2. They are counted for each window.
use Rattle.std.specs.Prelude.{ℕ, Bool, true, false, ◌==◌, nat_lt, List, [], ◌∷◌, length, take, reverse, slice_index_or}
use Rattle.std.specs.List.{count_by, flat_map, list_all}
use Rattle.rma_types.specs.declared.actions.Synchronisation.{Synchronisation}
use Rattle.rma_types.specs.declared.actions.Synchronisation.TheVariants.{Fences, Posts as PostsTo, Starts, Completes}
use Rattle.rma_types.specs.declared.actions.Synchronisation.TheVariants.{Waits, Locks, Unlocks, Flushes, Syncs}
use Rattle.call_rules.specs.Ranks.{members_of, is_member}
use Rattle.board_rules.specs.Entries.{synchronisations}
use Rattle.board_rules.specs.Questions.{Question}

-- the group of a post
abbrev pub group_of_post : Synchronisation → List (List ℕ)
group_of_post (Fences asserts) = []
group_of_post (PostsTo group asserts) = members_of group ∷ []
group_of_post (Starts group asserts) = []
group_of_post Completes = []
group_of_post (Waits tests) = []
group_of_post (Locks kind target asserts) = []
group_of_post (Unlocks target) = []
group_of_post (Flushes target local) = []
group_of_post Syncs = []

-- the group of a start
abbrev pub group_of_start : Synchronisation → List (List ℕ)
group_of_start (Fences asserts) = []
group_of_start (PostsTo group asserts) = []
group_of_start (Starts group asserts) = members_of group ∷ []
group_of_start Completes = []
group_of_start (Waits tests) = []
group_of_start (Locks kind target asserts) = []
group_of_start (Unlocks target) = []
group_of_start (Flushes target local) = []
group_of_start Syncs = []

abbrev pub is_complete : Synchronisation → Bool
is_complete (Fences asserts) = false
is_complete (PostsTo group asserts) = false
is_complete (Starts group asserts) = false
is_complete Completes = true
is_complete (Waits tests) = false
is_complete (Locks kind target asserts) = false
is_complete (Unlocks target) = false
is_complete (Flushes target local) = false
is_complete Syncs = false

-- a wait, or a testwin; a testwin is an entry only where it is true
abbrev pub is_wait : Synchronisation → Bool
is_wait (Fences asserts) = false
is_wait (PostsTo group asserts) = false
is_wait (Starts group asserts) = false
is_wait Completes = false
is_wait (Waits tests) = true
is_wait (Locks kind target asserts) = false
is_wait (Unlocks target) = false
is_wait (Flushes target local) = false
is_wait Syncs = false

-- the synchronisations of a rank on the window of the question
abbrev pub made_by : Question → ℕ → List Synchronisation
made_by q rank = synchronisations q.entries rank q.window

-- the groups of a rank's posts, of its starts, and how many completes and waits it has made
abbrev pub posts : Question → ℕ → List (List ℕ)
posts q rank = flat_map group_of_post (made_by q rank)

abbrev pub starts : Question → ℕ → List (List ℕ)
starts q rank = flat_map group_of_start (made_by q rank)

abbrev pub completes : Question → ℕ → ℕ
completes q rank = count_by is_complete (made_by q rank)

abbrev pub waits : Question → ℕ → ℕ
waits q rank = count_by is_wait (made_by q rank)

-- how many of the groups have the rank as a member
abbrev pub naming : ℕ → List (List ℕ) → ℕ
naming rank groups = count_by (is_member rank) groups

-- the groups of the starts that a rank has completed: as many as it has completes, from the first on
abbrev pub completed_groups : Question → ℕ → List (List ℕ)
completed_groups q rank = take (completes q rank) (starts q rank)

-- each member of the start's group has posted to this rank once more than this rank has started to it
abbrev pub start_has_posts : Question → List ℕ → Bool
start_has_posts q group =
    list_all (λ member. nat_lt (naming member (starts q q.rank)) (naming q.rank (posts q member))) group

-- the group of the rank's last post
abbrev pub last_posted : Question → List ℕ
last_posted q = slice_index_or (reverse (posts q q.rank)) 0 []

-- each member of the last post has completed towards this rank as often as this rank has posted to it
abbrev pub wait_has_completes : Question → Bool
wait_has_completes q =
    list_all (λ member. naming q.rank (completed_groups q member) == naming member (posts q q.rank)) (last_posted q)

-- a rank is posted from its post to its wait or true testwin
abbrev pub is_posted : Question → ℕ → Bool
is_posted q rank = nat_lt (waits q rank) (length (posts q rank))
