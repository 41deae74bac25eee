-- The accesses of parts, one part after another; `blocks` are the lists of their accesses.
use Rattle.std.proofs.Common.{◌≡◌, ◌+◌, ◌-◌, ◌<◌, ◌≤◌, ℕ, zero, suc, List, [], ◌∷◌, ◌++◌, take, drop, length, map}
use Rattle.std.proofs.Common.{refl, ap, arith, slice_get, Some, get_or, set, append_assoc, ◌∙◌, sym, length-append, ◌^◌}
use Rattle.std.specs.List.{remove, All}
use Rattle.std.specs.Option.{option_map}
use Rattle.std.proofs.lemmas.Option.{slice_get-map}
use Rattle.std.proofs.lemmas.List.{length-set, length-map, get_or-map}
use Rattle.std.proofs.lemmas.List.Elements.{All-append, All-drop, All-set, All-take}
use Rattle.std.proofs.Common.{subst}
use Rattle.std.proofs.Common.{add-one}
use Rattle.std.proofs.lemmas.List.{take-map, drop-map, map-append, map-set, set-append_left, set-append_right}
use Rattle.std.proofs.lemmas.List.{append-nil, drop_more, take_more}
use Rattle.std.proofs.lemmas.List.Edits.{length-remove, remove-append_left, remove-append_right}
use Rattle.list_laws.proofs.Lists.{some_within}
use Rattle.rank_rules.specs.declared.pending.PendingAccess.{PendingAccess}
use Rattle.delivery_queue.specs.declared.begun.Begun.{Begun}
use Rattle.delivery_queue.specs.Blocks.{joined, ones_in, accesses_of, touched_of, IsPlace}
use Rattle.delivery_queue.specs.declared.marks.Marks.{Marks}
use Rattle.delivery_queue.specs.Marked.{IsMarked, IsKept}

-- a block stands between those before it and those behind it
pub parted : (blocks : List (List Begun)) (at : ℕ) → at < length blocks →
    joined blocks ≡ joined (take at blocks) ++ (get_or blocks at [] ++ joined (drop (suc at) blocks))
parted [] at l = absurd (omega arith)
parted (block ∷ blocks) zero l = refl
parted (block ∷ blocks) (suc at) l =
    ap (λ (rest : List Begun). block ++ rest) (parted blocks at (omega arith)) ∙ sym (append_assoc block _ _)

-- and so does another in its place
pub replaced : (blocks : List (List Begun)) (at : ℕ) (other : List Begun) → at < length blocks →
    joined (set blocks at other) ≡ joined (take at blocks) ++ (other ++ joined (drop (suc at) blocks))
replaced [] at other l = absurd (omega arith)
replaced (block ∷ blocks) zero other l = refl
replaced (block ∷ blocks) (suc at) other l =
    ap (λ (rest : List Begun). block ++ rest) (replaced blocks at other (omega arith)) ∙ sym (append_assoc block _ _)

-- a block without accesses may go
pub left_out : (blocks : List (List Begun)) (at : ℕ) → at < length blocks → get_or blocks at [] ≡ [] →
    joined (remove blocks at) ≡ joined blocks
left_out [] at l e = absurd (omega arith)
left_out (block ∷ blocks) zero l e = rw e refl
left_out (block ∷ blocks) (suc at) l e =
    ap (λ (rest : List Begun). block ++ rest) (left_out blocks at (omega arith) e)

pub joined_append : (blocks others : List (List Begun)) → joined (blocks ++ others) ≡ joined blocks ++ joined others
joined_append [] others = refl
joined_append (block ∷ blocks) others =
    ap (λ (rest : List Begun). block ++ rest) (joined_append blocks others) ∙ sym (append_assoc block _ _)

get_behind : (xs ys : List Begun) (n : ℕ) → slice_get (xs ++ ys) (length xs + n) ≡ slice_get ys n
get_behind [] ys n = let e : 0 + n ≡ n = omega arith in rw e refl
get_behind (x ∷ xs) ys n =
    let e : suc (length xs) + n ≡ suc (length xs + n) = omega arith in rw e (get_behind xs ys n)

get_before : (xs ys : List Begun) (n : ℕ) → n < length xs → slice_get (xs ++ ys) n ≡ slice_get xs n
get_before [] ys n l = absurd (omega arith)
get_before (x ∷ xs) ys zero l = refl
get_before (x ∷ xs) ys (suc n) l = get_before xs ys n (omega arith)

-- the access at a place is that of its block
pub get_at : (blocks : List (List Begun)) (at block offset : ℕ) → IsPlace blocks at block offset →
    slice_get (joined blocks) at ≡ slice_get (get_or blocks block []) offset
get_at blocks at block offset place =
    rw (parted blocks block place.exists, ← place.begins)
    (get_behind (joined (take block blocks)) _ offset ∙ get_before (get_or blocks block []) _ offset place.within)

-- an access that changes in its block changes in the whole
pub set_in_block : (blocks : List (List Begun)) (at block offset : ℕ) (one : Begun) → IsPlace blocks at block offset →
    joined (set blocks block (set (get_or blocks block []) offset one)) ≡ set (joined blocks) at one
set_in_block blocks at block offset one place =
    let before = joined (take block blocks) in
    let here = get_or blocks block [] in
    let behind = joined (drop (suc block) blocks) in
    let begins = place.begins in
    let within : offset < length here = place.within in
    let n : length before ≤ at = omega arith in
    let off : at - length before ≡ offset = omega arith in
    let right : set (before ++ (here ++ behind)) at one ≡ before ++ set (here ++ behind) (at - length before) one =
    set-append_right before (here ++ behind) (length before) at one refl n in
    replaced blocks block (set here offset one) place.exists
    ∙ ap (λ (rest : List Begun). before ++ rest) (sym (set-append_left here behind offset one within))
    ∙ sym (rw off at right)
    ∙ ap (λ (whole : List Begun). set whole at one) (sym (parted blocks block place.exists))

-- and one that goes from its block goes from the whole
pub removed_in_block : (blocks : List (List Begun)) (at block offset : ℕ) → IsPlace blocks at block offset →
    joined (set blocks block (remove (get_or blocks block []) offset)) ≡ remove (joined blocks) at
removed_in_block blocks at block offset place =
    let before = joined (take block blocks) in
    let here = get_or blocks block [] in
    let behind = joined (drop (suc block) blocks) in
    let begins = place.begins in
    let within : offset < length here = place.within in
    let n : length before ≤ at = omega arith in
    let off : at - length before ≡ offset = omega arith in
    let right : remove (before ++ (here ++ behind)) at ≡ before ++ remove (here ++ behind) (at - length before) =
    remove-append_right before (here ++ behind) (length before) at refl n in
    replaced blocks block (remove here offset) place.exists
    ∙ ap (λ (rest : List Begun). before ++ rest) (sym (remove-append_left here behind offset within))
    ∙ sym (rw off at right)
    ∙ ap (λ (whole : List Begun). remove whole at) (sym (parted blocks block place.exists))

-- an access behind the last of the last block is behind all
pub pushed_in_last : (blocks : List (List Begun)) (last : ℕ) (one : Begun) → length blocks ≡ last + 1 →
    joined (set blocks last (get_or blocks last [] ++ one ∷ [])) ≡ joined blocks ++ one ∷ []
pushed_in_last [] last one l = absurd (omega arith)
pushed_in_last (block ∷ []) zero one l =
    rw (append-nil (block ++ one ∷ []), append-nil block) refl
pushed_in_last (block ∷ []) (suc last) one l = absurd (omega arith)
pushed_in_last (block ∷ other ∷ blocks) zero one l = absurd (omega arith)
pushed_in_last (block ∷ other ∷ blocks) (suc last) one l =
    ap (λ (rest : List Begun). block ++ rest) (pushed_in_last (other ∷ blocks) last one (omega arith))
    ∙ sym (append_assoc block _ _)

-- one that goes from a list goes from each list made of it
pub map_remove : {X Y : Type 0} (f : X → Y) (xs : List X) (at : ℕ) → map f (remove xs at) ≡ remove (map f xs) at
map_remove f xs at =
    rw (map-append f (take at xs) (drop (suc at) xs), take-map f at xs, drop-map f (suc at) xs) refl

pub set_same : {X : Type 0} (xs : List X) (at : ℕ) (x : X) → slice_get xs at ≡ Some x → set xs at x ≡ xs
set_same [] at x e = refl
set_same (y ∷ xs) zero x e = let same : y ≡ x = grind (arith, e) in rw same refl
set_same (y ∷ xs) (suc at) x e = ap (λ rest. y ∷ rest) (set_same xs at x e)

marked_at : (marks : Marks) (ones : List Begun) (at : ℕ) (one : Begun) →
    All (λ (one : Begun). IsMarked marks one.access) ones → slice_get ones at ≡ Some one → IsMarked marks one.access
marked_at marks [] at one all e = cc
marked_at marks (other ∷ ones) zero one all e =
    let same : other ≡ one = grind (arith, e) in
    subst (λ (begun : Begun). IsMarked marks begun.access) same (all 0 one (omega arith))
marked_at marks (other ∷ ones) (suc at) one all e =
    marked_at marks ones at one (λ k d l. all (suc k) d (omega arith)) e

-- the touched elements of one are counted, and nothing else changes
pub touched_in : (ones after : List Begun) (at count : ℕ) → at < length ones →
    ((one : Begun) → slice_get ones at ≡ Some one →
    after ≡ set ones at (record { access = one.access; touched = count })) →
    (accesses_of after ≡ accesses_of ones) × (touched_of after ≡ set (touched_of ones) at count)
    × (length after ≡ length ones)
touched_in ones after at count l is =
    let here = some_within ones at l in
    let one = here.0 in
    let other : Begun = record { access = one.access; touched = count } in
    let e : after ≡ set ones at other = is one here.1 in
    let stands : slice_get (accesses_of ones) at ≡ Some one.access =
    slice_get-map (λ (one : Begun). one.access) ones at ∙ ap (option_map (λ (one : Begun). one.access)) here.1 in
    rw e (
      map-set (λ (one : Begun). one.access) ones at other ∙ set_same (accesses_of ones) at one.access stands,
      map-set (λ (one : Begun). one.touched) ones at other,
      length-set ones at other,
    )

-- what the first of a list have, and the next one, the first and the next have
all_next : {X : Type 0} (P : X → Type 0) (xs : List X) (at : ℕ) → All P (take at xs) →
    ((d : X) → at < length xs → P (get_or xs at d)) → All P (take (suc at) xs)
all_next P [] at all next k d l = absurd (omega arith)
all_next P (x ∷ xs) zero all next zero d l = next d (omega arith)
all_next P (x ∷ xs) zero all next (suc k) d l = absurd (omega arith)
all_next P (x ∷ xs) (suc at) all next zero d l = all zero d (omega arith)
all_next P (x ∷ xs) (suc at) all next (suc k) d l =
    all_next P xs at (λ k d l. all (suc k) d (omega arith)) (λ d l. next d (omega arith)) k d (omega arith)

-- marks with those of one more
pub marked_next : (marks more : Marks) (ones : List Begun) (at : ℕ) →
    All (λ (one : Begun). IsMarked marks one.access) (take at ones) →
    ((other : PendingAccess) → IsMarked marks other → IsMarked more other) →
    ((d : Begun) → at < length ones → IsMarked more (get_or ones at d).access) →
    All (λ (one : Begun). IsMarked more one.access) (take (at + 1) ones)
marked_next marks more ones at all kept next =
    rw add-one (all_next (λ (one : Begun). IsMarked more one.access) ones at
    (λ k d l. kept (get_or (take at ones) k d).access (all k d l)) next)

-- what is left of the parts, from one of them on, and what comes before the next
pub parted_next : {P : Type 0} (f : P → List Begun) (parts : List P) (at : ℕ) (part : P) → at < length parts →
    part ≡ get_or parts at part → ones_in f (drop at parts) ≡ f part ++ ones_in f (drop (at + 1) parts)
parted_next f parts at part l here = ap (ones_in f) (drop_more parts at part l) ∙ rw (← here) refl

pub taken_next : {P : Type 0} (f : P → List Begun) (parts : List P) (at : ℕ) (part : P) → at < length parts →
    part ≡ get_or parts at part → ones_in f (take (at + 1) parts) ≡ ones_in f (take at parts) ++ f part
taken_next f parts at part l here =
    ap (ones_in f) (take_more parts at part l)
    ∙ ap joined (map-append f (take at parts) (get_or parts at part ∷ []))
    ∙ joined_append (map f (take at parts)) (f (get_or parts at part) ∷ [])
    ∙ rw (← here) (ap (λ (rest : List Begun). ones_in f (take at parts) ++ rest) (append-nil (f part)))

-- a part gives the accesses that stand at its place
pub part_here : {P : Type 0} (f : P → List Begun) (parts : List P) (at : ℕ) (part : P) → at < length parts →
    part ≡ get_or parts at part → f part ≡ get_or (map f parts) at []
part_here f parts at part l here = ap f here ∙ sym (get_or-map f parts at part [] l)

-- an access stands at the place that was found part by part
pub placed : {P : Type 0} (f : P → List Begun) (parts : List P) (at number offset : ℕ) (part : P) →
    number < length parts → part ≡ get_or parts number part → offset < length (f part) →
    length (ones_in f (take number parts)) + offset ≡ at → IsPlace (map f parts) at number offset
placed f parts at number offset part l here within begins = record {
  begins = rw (take-map f number parts) begins;
  within = subst (λ (ones : List Begun). offset < length ones) (part_here f parts number part l here) within;
  exists = subst (λ (n : ℕ). number < n) (sym (length-map parts f)) l;
}

-- marks of two lists, put together, are those of both
pub marked_both : (marks other more : Marks) (ones others : List Begun) →
    All (λ (one : Begun). IsMarked marks one.access) ones → All (λ (one : Begun). IsMarked other one.access) others →
    ((one : PendingAccess) → IsMarked marks one → IsMarked more one) →
    ((one : PendingAccess) → IsMarked other one → IsMarked more one) →
    All (λ (one : Begun). IsMarked more one.access) (ones ++ others)
marked_both marks other more ones others all all_others kept kept_others =
    All-append (λ (one : Begun). IsMarked more one.access) ones others
    (λ k d l. kept _ (all k d l)) (λ k d l. kept_others _ (all_others k d l))

-- the touched elements of one are counted, and its marks stay
pub touched_kept : (marks : Marks) (total : ℕ) (ones after : List Begun) (at count : ℕ) → at < length ones →
    ((one : Begun) → slice_get ones at ≡ Some one →
    after ≡ set ones at (record { access = one.access; touched = count })) →
    IsKept marks total ones → IsKept marks total after
touched_kept marks total ones after at count l is kept =
    let here = some_within ones at l in
    let one : Begun = here.0 in
    let other : Begun = record { access = one.access; touched = count } in
    let marked : IsMarked marks one.access = marked_at marks ones at one kept.marked here.1 in
    rw (is one here.1) record {
      marked = All-set (λ (begun : Begun). IsMarked marks begun.access) ones at other marked kept.marked;
      counted = length-set ones at other ∙ kept.counted;
      few = kept.few;
    }

-- one access goes, and the others have their marks
pub removed_kept : (marks : Marks) (total : ℕ) (ones : List Begun) (at : ℕ) → at < length ones →
    IsKept marks total ones → IsKept marks (total - 1) (remove ones at)
removed_kept marks total ones at l kept =
    let marked : Begun → Type 0 = λ one. IsMarked marks one.access in
    let shorter : length (remove ones at) + 1 ≡ length ones = length-remove ones at l in
    let counted = kept.counted in
    let few = kept.few in
    record {
      marked = All-append marked (take at ones) (drop (suc at) ones) (All-take marked at ones kept.marked)
          (All-drop marked (suc at) ones kept.marked);
      counted = omega arith;
      few = omega arith;
    }

-- one access more, with its marks
pub pushed_kept : (marks more : Marks) (total : ℕ) (ones : List Begun) (one : Begun) → total + 1 < 2 ^ 64 →
    ((other : PendingAccess) → IsMarked marks other → IsMarked more other) → IsMarked more one.access →
    IsKept marks total ones → IsKept more (total + 1) (ones ++ one ∷ [])
pushed_kept marks more total ones one small kept_marks added kept =
    let counted = kept.counted in
    let long : length (ones ++ one ∷ []) ≡ length ones + 1 = length-append ones (one ∷ []) in
    record {
      marked = All-append (λ (begun : Begun). IsMarked more begun.access) ones (one ∷ [])
          (λ k d l. kept_marks _ (kept.marked k d l)) (only (λ (begun : Begun). IsMarked more begun.access) one added);
      counted = omega arith;
      few = small;
    }
  where
    only : {X : Type 0} (P : X → Type 0) (x : X) → P x → All P (x ∷ [])
    only P x holds zero d l = holds
    only P x holds (suc k) d l = absurd (omega arith)
