-- What a touch of a get or a load reads is what the updates before its access leave.
use Rattle.std.proofs.Common.{◌≡◌, ℕ, suc, ◌+◌, ◌<◌, ◌≤◌, ◌⊎◌, inl, inr, Bool, true, false, List, [], length, Some}
use Rattle.std.proofs.Common.{None, refl, ap, sym, ◌∙◌, subst, arith}
use Rattle.std.specs.Prelude.{◌≢◌, map, nat_lt, slice_index, if◌then◌else◌}
use Rattle.std.specs.List.{filter, count_by}
use Rattle.std.proofs.lemmas.Bool.{eq-eqb}
use Rattle.list_laws.proofs.Members.{each_in, In, in_filter, in_contains}
use Rattle.list_laws.proofs.Truths.{false_unless}
use Rattle.rma_types.specs.declared.accesses.Id.{Id}
use Rattle.rma_types.specs.declared.dtypes.Dtype.{Dtype}
use Rattle.rma_types.specs.declared.findings.Model.{Model}
use Rattle.rma_types.specs.declared.schedules.Delay.{Delay}
use Rattle.rma_types.specs.declared.scripts.Script.{Script}
use Rattle.rma_types.specs.Datatypes.{size_of}
use Rattle.rma_record.specs.declared.runs.Run.{Run}
use Rattle.call_rules.specs.declared.elements.Change.{Change}
use Rattle.rma_types.specs.declared.actions.Transfer.{Transfer}
use Rattle.call_rules.specs.Elements.{element_in}
use Rattle.call_rules.specs.Layout.{layout, cells_of}
use Rattle.call_rules.specs.Pieces.{numbers_from}
use Rattle.call_rules.specs.WellFormed.{IsWellFormed}
use Rattle.lawful_runs.specs.Accesses.{Touching, all_touches, is_on_cell, on_cell, touches_of}
use Rattle.lawful_runs.specs.Cells.{has_place, state, ReadsState, IsHistory}
use Rattle.lawful_runs.specs.LawfulRun.{IsLawful}
use Rattle.order_rules.specs.Before.{Before, IsOrder}
use Rattle.order_rules.specs.CallSteps.{IssuedAccess, accesses_in}
use Rattle.order_rules.specs.Findings.{findings}
use Rattle.order_rules.specs.OrderedReads.{TouchesAgree, updates_of, left_before, is_get_or_load}
use Rattle.order_rules.specs.Roles.{role_of}
use Rattle.order_laws.proofs.Order.{transitive}
use Rattle.order_laws.specs.FindingLaws.{is_update as is_update_role}
use Rattle.read_laws.proofs.Bytes.{element_agrees}
use Rattle.read_laws.proofs.Elements.{IsUpdateOn, update_on, is_updating, own_target, earlier_update, update_passed}
use Rattle.read_laws.proofs.Elements.{read_kept, same_issued, same_access, no_read, read_role}
use Rattle.read_laws.proofs.Folds.{DoShare, folds_agree}
use Rattle.read_laws.proofs.Meetings.{meeting}
use Rattle.read_laws.proofs.Ordered.{before_issue, after_issue}
use Rattle.read_laws.proofs.Parts.{IsOfTransfer, AreOfTransfers, IsPart, no_change}
use Rattle.read_laws.proofs.Places.{IsAligned, IsElement, LiesIn, element_of, piece_aligned, nested, some_bytes}
use Rattle.read_laws.proofs.Places.{share_byte}
use Rattle.read_laws.proofs.Steps.{IsAccess, access_is}

-- a test that is one or none
at_most_one : (b : Bool) (n : ℕ) → n ≡ (if b then 1 else 0) → n ≤ 1
at_most_one true n e = omega arith
at_most_one false n e = omega arith

share_moved : (a b m n a' b' m' n' : ℕ) → a ≡ a' → b ≡ b' → m ≡ m' → n ≡ n' → a < b + n → b < a + m →
    (a' < b' + n') × (b' < a' + m')
share_moved a b m n a' b' m' n' p q r s h k = (omega arith, omega arith)

module _ (script : Script) (delay : Delay) (run : Run) (formed : IsWellFormed script)
    (lawful : IsLawful script delay run)
    (agree : TouchesAgree script run) (model : Model) (before : Id → Id → Bool) (order : IsOrder script run before)
    (none : findings script run model before ≡ []) (each : AreOfTransfers script run) where
  -- a touch of a get or a load
  pub record IsRead (f : IssuedAccess) (touch : Touching) : Type 0 where
    pub of_run : In f (accesses_in script run)
    pub listed : In touch (all_touches script run)
    pub reads : is_get_or_load f.issued.access.kind ≡ true
    pub t : Transfer
    pub is : IsOfTransfer script f t
    pub part : IsPart script run f t touch

  module _ (f : IssuedAccess) (touch : Touching) (read : IsRead f touch) where
    abbrev access : IsAccess script run f
    access = access_is script run read.of_run

    abbrev updates : List Touching
    updates = updates_of script run touch.cell

    abbrev first : ℕ
    first = read.part.piece.first_byte

    abbrev count : ℕ
    count = size_of read.t.dtype

    abbrev test : Touching → Bool
    test update = before update.id f.id

    element : IsElement (layout script) f.issued.access read.t.dtype touch.element read.part.piece
    element = element_of (layout script) f.issued.access read.t.dtype touch.element read.part.piece read.part.element

    aligned : IsAligned read.part.piece.first_byte read.t.dtype
    aligned = piece_aligned (layout script) f.issued.access read.t.dtype touch.element read.part.piece read.is.lies
        element

    fetches : f.issued.fetches ≡ true
    fetches = read.is.fetches ∙ (read.is.facts.reads (sym (ap is_get_or_load read.is.kind) ∙ read.reads)).0

    changes_none : touch.change ≡ None
    changes_none = read.part.change ∙ no_change read.t touch.element read.part.piece.first_byte
        (read.is.facts.reads (sym (ap is_get_or_load read.is.kind) ∙ read.reads)).1

    -- what is before the read's Issue is before its touch
    reaches : (v : Touching) → Before script run v.id f.id → Before script run v.id touch.id
    reaches v h = transitive script run v.id f.id touch.id h
        (after_issue script delay run formed lawful f touch access read.part.by)

    differs : (v : Touching) (change : Change) (u : IsUpdateOn script run touch.cell v change) → u.access.id ≢ f.id
    differs v change u same =
        let issued = same_issued script run u.access f (access_is script run u.of_run) access same in
        let kinds : is_update_role (role_of u.access.issued.access.kind) ≡ is_update_role
        (role_of f.issued.access.kind) =
        ap (λ p. is_update_role (role_of p.access.kind)) issued in
        cc (
          is_updating script delay run formed lawful agree model before order none each touch.cell v change u,
          kinds,
          (read_role f.issued.access.kind read.reads).0,
        )

    -- an update that is before the read has a smaller place
    passed : (v : Touching) (change : Change) (u : IsUpdateOn script run touch.cell v change) → v.change ≡ Some change →
        Before script run v.id f.id → v.place < touch.place
    passed v change u some h = update_passed v touch change some
        (agree v touch (in_contains u.listed) (in_contains read.listed) u.on
        (λ same. differs v change u
        (same_access script run u.access f v touch (access_is script run u.of_run) access u.part.by read.part.by same))
        (reaches v h))

    -- an update of a byte that is read is before the read, or it is not and its place is not below
    abbrev IsApart : Touching → Type 0
    IsApart v = ((test v ≡ true) × (v.place < touch.place)) ⊎ ((test v ≡ false) × (touch.place ≤ v.place))

    decided : (v : Touching) (change : Change) → In v updates → v.change ≡ Some change → DoShare change first count →
        IsApart v
    decided v change m some shares =
        let u = update_on script delay run formed lawful agree model before order none each touch.cell v change m some
        in
        let other = access_is script run u.of_run in
        let size : size_of change.dtype ≡ size_of u.t.dtype = ap size_of u.makes.dtype_is in
        let moved = share_moved change.first_byte first (size_of change.dtype) count u.part.piece.first_byte first
        (size_of u.t.dtype) count
        u.makes.first refl size refl shares.1 shares.0 in
        let cells : u.part.piece.cell ≡ read.part.piece.cell = u.part.cell ∙ u.on ∙ sym read.part.cell in
        let meet = share_byte script u.access.issued.access f.issued.access u.t.dtype read.t.dtype v.element
        touch.element u.part.piece
        read.part.piece u.is.lies read.is.lies u.element element cells moved.0 moved.1 in
        let back = share_byte script f.issued.access u.access.issued.access read.t.dtype u.t.dtype touch.element
        v.element read.part.piece
        u.part.piece read.is.lies u.is.lies element u.element (sym cells) moved.1 moved.0 in
        let updating = is_updating script delay run formed lawful agree model before order none each touch.cell v
        change u in
        elim (meeting script run model before order none u.access f u.of_run read.of_run (differs v change u) meet back
        (inl updating)
        (own_target script delay run formed lawful agree model before order none each u.access u.t u.is)
        (own_target script delay run formed lawful agree model before order none each f read.t read.is)) [
          | inl (inl earlier) ↦
              let h = before_issue script delay run formed lawful model before order u.access f v other access
              (differs v change u)
              (λ reads. absurd (no_read (role_of u.access.issued.access.kind) updating reads)) earlier u.part.by in
              inl ((order v.id f.id).1 h, passed v change u some h)
          | inl (inr later) ↦
              let h = transitive script run touch.id u.access.id v.id
              (before_issue script delay run formed lawful model before order f u.access touch access other
              (λ same. differs v change u (sym same))
              (λ reads. fetches) later read.part.by)
              (after_issue script delay run formed lawful u.access v other u.part.by) in
              let kept = read_kept touch v changes_none
              (agree touch v (in_contains read.listed) (in_contains u.listed) (sym u.on)
              (λ same. differs v change u
              (sym (same_access script run f u.access touch v access other read.part.by u.part.by same))) h) in
              inr (
                false_unless (test v) (λ is. let below = passed v change u some ((order v.id f.id).0 is) in
                    omega (arith, below, kept)),
                kept,
              )
          | inr alike ↦ absurd (cc (alike.of_b, (read_role f.issued.access.kind read.reads).1))
        ]

    -- ---- the bytes that are needed

    -- an update before the read, of these bytes, with a place from k on
    record IsFrom (k base whole : ℕ) : Type 0 where
      update : Touching
      change : Change
      listed : In update updates
      some : update.change ≡ Some change
      base_is : base ≡ change.first_byte
      whole_is : whole ≡ size_of change.dtype
      passes : test update ≡ true
      late : k ≤ update.place

    -- the bytes that are read, or those of such an update, with them among them
    record NeedsAt (k base whole : ℕ) : Type 0 where
      within : base + whole ≤ 4
      covers : LiesIn first count base whole
      reason : ((base ≡ first) × (whole ≡ count) × (k ≤ touch.place)) ⊎ IsFrom k base whole

    info : (v : Touching) (change : Change) → In v updates → v.change ≡ Some change →
        IsUpdateOn script run touch.cell v change
    info v change m some = update_on script delay run formed lawful agree model before order none each touch.cell v
        change m
        some

    -- an update that passes, and shares a byte of what is read, has a smaller place
    share_read : (change : Change) (base whole : ℕ) → LiesIn first count base whole → base ≡ change.first_byte →
        whole ≡ size_of change.dtype → DoShare change first count
    share_read change base whole covers at size =
        let some = some_bytes read.t.dtype in
        (omega (arith, covers.1, at, size, some), omega (arith, covers.0, at, some))

    passes : (v : Touching) (change : Change) (base whole : ℕ) → In v updates → v.change ≡ Some change →
        NeedsAt (suc v.place) base whole →
        DoShare change base whole → test v ≡ true
    passes v change base whole m some needs shares = elim needs.reason [
      | inl own ↦
          let moved : DoShare change first count = (
            omega (arith, shares.0, own.0),
            omega (arith, shares.1, own.0, own.1),
          ) in
          elim (decided v change m some moved) [
            | inl is ↦ is.0
            | inr late ↦ absurd (omega (arith, late.1, own.2))
          ]
      | inr from ↦
          let u = info v change m some in
          let x = info from.update from.change from.listed from.some in
          let later = (order from.update.id f.id).0 from.passes in
          elim (earlier_update script delay run formed lawful agree model before order none each touch.cell v
          from.update
          change from.change u x some from.some
          (omega (arith, from.late)) (omega (arith, shares.1, from.base_is, from.whole_is))
          (omega (arith, shares.0, from.base_is))) [
            | inl before_it ↦ (order v.id f.id).1 (transitive script run v.id from.update.id f.id before_it later)
            | inr same ↦
                let size : size_of change.dtype ≡ size_of from.change.dtype = ap size_of same.1 in
                elim (decided v change m some (share_read change base whole needs.covers (from.base_is
                ∙ sym same.0) (from.whole_is ∙ sym size))) [
                  | inl is ↦ is.0
                  | inr late ↦
                      let below = passed from.update from.change x from.some later in
                      absurd (omega (arith, below, late.1, from.late))
                ]
          ]
    ]

    nested_or : (v : Touching) (change : Change) (base whole : ℕ) (dtype : Dtype) → In v updates →
        v.change ≡ Some change →
        LiesIn first count base whole → IsAligned base dtype → whole ≡ size_of dtype → DoShare change base whole →
        test v ≡ true →
        ((base ≤ change.first_byte) × (change.first_byte + size_of change.dtype ≤ base + whole))
        ⊎ NeedsAt v.place change.first_byte (size_of change.dtype)
    nested_or v change base whole dtype m some covers is size shares passing =
        let u = info v change m some in
        elim (nested change.dtype dtype change.first_byte base u.aligned is (omega (arith, shares.1, size)) shares.0) [
          | inl inner ↦ inl (inner.0, omega (arith, inner.1, size))
          | inr outer ↦ inr (record {
            within = u.aligned.inside;
            covers = (omega (arith, outer.0, covers.0), omega (arith, outer.1, covers.1, size));
            reason = inr (record {
              update = v;
              change = change;
              listed = m;
              some = some;
              base_is = refl;
              whole_is = refl;
              passes = passing;
              late = omega arith;
            });
          })
        ]

    widens : (v : Touching) (change : Change) (base whole : ℕ) → In v updates → v.change ≡ Some change →
        NeedsAt (suc v.place) base whole →
        DoShare change base whole →
        ((base ≤ change.first_byte) × (change.first_byte + size_of change.dtype ≤ base + whole))
        ⊎ NeedsAt v.place change.first_byte (size_of change.dtype)
    widens v change base whole m some needs shares =
        let passing = passes v change base whole m some needs shares in
        elim needs.reason [
          | inl own ↦ nested_or v change base whole read.t.dtype m some needs.covers
              (subst (λ n. IsAligned n read.t.dtype) (sym own.0) aligned) own.1 shares passing
          | inr from ↦ nested_or v change base whole from.change.dtype m some needs.covers
              (subst (λ n. IsAligned n from.change.dtype) (sym from.base_is)
              (info from.update from.change from.listed from.some).aligned)
              from.whole_is shares passing
        ]

    fewer : (k base whole : ℕ) → NeedsAt (suc k) base whole → NeedsAt k base whole
    fewer k base whole needs = record { within = needs.within; covers = needs.covers; reason = less needs.reason }
      where
        less : ((base ≡ first) × (whole ≡ count) × (suc k ≤ touch.place)) ⊎ IsFrom (suc k) base whole →
            ((base ≡ first) × (whole ≡ count) × (k ≤ touch.place)) ⊎ IsFrom k base whole
        less (inl own) = inl (own.0, own.1, omega (arith, own.2))
        less (inr from) = inr (record {
          update = from.update;
          change = from.change;
          listed = from.listed;
          some = from.some;
          base_is = from.base_is;
          whole_is = from.whole_is;
          passes = from.passes;
          late = omega (arith, from.late);
        })

    -- ---- the value

    history : IsHistory (on_cell touch.cell (all_touches script run))
        (map (λ rank. on_cell touch.cell (touches_of script run rank)) (numbers_from 0 script.ranks))
        (slice_index run.memory touch.cell)
    history = lawful.cells.histories touch.cell
        (each_in (λ (x : Touching). x.cell < cells_of (layout script))
        (all_touches script run) lawful.cells.inside read.listed)

    reads_state : ReadsState updates touch
    reads_state = each_in (ReadsState updates) (on_cell touch.cell (all_touches script run)) history.states
        (in_filter (is_on_cell touch.cell) read.listed (eq-eqb touch.cell touch.cell refl))

    pub element_is_left : element_in touch.bits read.part.piece.first_byte read.t.dtype
        ≡ element_in (left_before before f.id updates) read.part.piece.first_byte read.t.dtype
    element_is_left =
        ap (λ bits. element_in bits first read.t.dtype) reads_state.reads
        ∙ element_agrees read.t.dtype first (state updates touch.place)
        (state (filter test updates) (length updates)) aligned.inside
        (folds_agree updates test NeedsAt touch.place (length updates) first count
        (record {
          once = λ place. at_most_one (nat_lt place (length updates)) (count_by (has_place place) updates)
              (history.places place);
          inside = λ update change m some. (info update change m some).aligned.inside;
        })
        (record {
          fewer = fewer;
          within = λ k base whole needs. needs.within;
          passes = passes_here;
          widens = widens_here;
        })
        (record {
          within = aligned.inside;
          covers = (omega arith, omega arith);
          reason = inl (refl, refl, omega arith);
        })
        reads_state.within fails)
      where
        passes_here : (v : Touching) (change : Change) (base whole : ℕ) → In v updates → v.change ≡ Some change →
            NeedsAt (suc v.place) base whole → DoShare change base whole → test v ≡ true
        passes_here v change base whole m some needs shares = passes v change base whole m some needs shares

        widens_here : (v : Touching) (change : Change) (base whole : ℕ) → In v updates → v.change ≡ Some change →
            NeedsAt (suc v.place) base whole →
            DoShare change base whole →
            ((base ≤ change.first_byte) × (change.first_byte + size_of change.dtype ≤ base + whole))
            ⊎ NeedsAt v.place change.first_byte (size_of change.dtype)
        widens_here v change base whole m some needs shares = widens v change base whole m some needs shares

        fails : (v : Touching) (change : Change) → In v updates → v.change ≡ Some change → touch.place ≤ v.place →
            DoShare change first count →
            test v ≡ false
        fails v change m some late shares = elim (decided v change m some shares) [
          | inl is ↦ absurd (omega (arith, is.1, late))
          | inr is ↦ is.0
        ]
