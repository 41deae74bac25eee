-- What a touch of a get or a load reads is what the updates before its access leave.
use Rattle.std.proofs.Common.{◌≡◌, ℕ, ◌+◌, ◌<◌, ◌≤◌, ◌⊎◌, inl, inr, Bool, true, false, cond, [], Some, None, refl, ap}
use Rattle.std.proofs.Common.{sym, ◌∙◌, subst, arith}
use Rattle.std.specs.Prelude.{slice_get}
use Rattle.std.specs.Option.{option_map_or}
use Rattle.std.proofs.lemmas.Bool.{cases_eq, eqb-true}
use Rattle.list_laws.proofs.Members.{In, filter_in, in_contains}
use Rattle.rma_types.specs.declared.accesses.Id.{Id}
use Rattle.rma_types.specs.declared.accesses.Kind.{Kind}
use Rattle.rma_types.specs.declared.accesses.Kind.TheVariants.{Get as GetKind, Put as PutKind, Acc as AccKind}
use Rattle.rma_types.specs.declared.accesses.Kind.TheVariants.{Cas as CasKind, Load as LoadKind, Store as StoreKind}
use Rattle.rma_types.specs.declared.dtypes.Dtype.{Dtype}
use Rattle.rma_types.specs.declared.findings.Model.{Model}
use Rattle.rma_types.specs.declared.schedules.Delay.{Delay}
use Rattle.rma_types.specs.declared.scripts.Script.{Script}
use Rattle.rma_types.specs.Datatypes.{size_of}
use Rattle.rma_record.specs.declared.items.Item.TheVariants.{Touch}
use Rattle.rma_record.specs.declared.runs.Run.{Run}
use Rattle.call_rules.specs.declared.elements.Change.{Change}
use Rattle.call_rules.specs.declared.elements.Piece.{Piece}
use Rattle.rma_types.specs.declared.actions.Transfer.{Transfer}
use Rattle.call_rules.specs.Layout.{layout}
use Rattle.call_rules.specs.Transfers.{is_no_op}
use Rattle.call_rules.specs.WellFormed.{IsWellFormed}
use Rattle.lawful_runs.specs.Accesses.{Touching, all_touches, is_on_cell, is_update, on_cell, transfer_at, issued_by}
use Rattle.lawful_runs.specs.Accesses.{issued_at}
use Rattle.lawful_runs.specs.Cells.{KeepsOrder}
use Rattle.lawful_runs.specs.LawfulRun.{IsLawful}
use Rattle.lawful_runs.specs.Logs.{log_of, calls_of}
use Rattle.lawful_runs.specs.TouchLaw.{is_local}
use Rattle.order_rules.specs.Before.{Before, IsOrder}
use Rattle.order_rules.specs.CallSteps.{IssuedAccess, accesses_in}
use Rattle.order_rules.specs.Findings.{findings}
use Rattle.order_rules.specs.OrderedReads.{TouchesAgree, updates_of, is_get_or_load}
use Rattle.order_rules.specs.Roles.{Role, RmaUpdate, RmaRead, Store, Load, role_of, is_rma_read}
use Rattle.order_rules.specs.Rules.{accumulation_of}
use Rattle.order_laws.proofs.Order.{transitive}
use Rattle.order_laws.specs.FindingLaws.{is_update as is_update_role}
use Rattle.read_laws.proofs.Meetings.{is_local_role, meeting}
use Rattle.read_laws.proofs.Ordered.{before_issue, after_issue}
use Rattle.read_laws.proofs.Parts.{IsOfTransfer, AreOfTransfers, access_of_touch, IsPart, part_of, IsUpdateOf}
use Rattle.read_laws.proofs.Parts.{change_is}
use Rattle.read_laws.proofs.Places.{IsAligned, IsElement, element_of, piece_aligned, one_element, share_byte}
use Rattle.read_laws.proofs.Steps.{IsAccess, IsTouchBy, access_is, touch_logged}
use Rattle.read_laws.proofs.Touches.{touch_is}

-- ---- kinds

pub local_kind : (kind : Kind) → is_local_role (role_of kind) ≡ true → is_local kind ≡ true
local_kind GetKind h = absurd (cc h)
local_kind PutKind h = absurd (cc h)
local_kind (AccKind op dtype) h = by_test (is_no_op op) h
  where
    by_test : (b : Bool) → is_local_role (cond b RmaRead RmaUpdate) ≡ true → false ≡ true
    by_test true h = h
    by_test false h = h
local_kind (CasKind dtype) h = absurd (cc h)
local_kind LoadKind h = refl
local_kind StoreKind h = refl

pub no_read : (role : Role) → is_update_role role ≡ true → is_rma_read role ≡ true → ⊥
no_read RmaUpdate h k = cc k
no_read RmaRead h k = cc h
no_read Store h k = cc k
no_read Load h k = cc k

pub read_role : (kind : Kind) → is_get_or_load kind ≡ true → (is_update_role (role_of kind) ≡ false)
    × (accumulation_of kind ≡ None)
read_role GetKind h = (refl, refl)
read_role PutKind h = absurd (cc h)
read_role (AccKind op dtype) h = absurd (cc h)
read_role (CasKind dtype) h = absurd (cc h)
read_role LoadKind h = (refl, refl)
read_role StoreKind h = absurd (cc h)

-- ---- places

pub update_passed : (u v : Touching) (change : Change) → u.change ≡ Some change → KeepsOrder u v → u.place < v.place
update_passed u v change is keeps = subst (λ o. KeepsOrder (record u { change = o }) v) is keeps

pub read_kept : (u v : Touching) → u.change ≡ None → KeepsOrder u v → u.place ≤ v.place
read_kept u v is keeps = subst (λ o. KeepsOrder (record u { change = o }) v) is keeps

-- ---- accesses of one name

pub same_issued : (script : Script) (run : Run) (a b : IssuedAccess) → IsAccess script run a → IsAccess script run b →
    a.id ≡ b.id → a.issued ≡ b.issued
same_issued script run a b access other same =
    let first : issued_at (calls_of script a.id.rank) (log_of run a.id.rank) a.id.index ≡ Some a.issued =
    found a access in
    let second : issued_at (calls_of script b.id.rank) (log_of run b.id.rank) b.id.index ≡ Some b.issued =
    found b other in
    let both : Some a.issued ≡ Some b.issued =
    sym first ∙ ap (λ (i : Id). issued_at (calls_of script i.rank) (log_of run i.rank) i.index) same ∙ second in
    cc both
  where
    found : (x : IssuedAccess) → IsAccess script run x →
        issued_at (calls_of script x.id.rank) (log_of run x.id.rank) x.id.index ≡ Some x.issued
    found x is =
        ap (issued_at (calls_of script x.id.rank) (log_of run x.id.rank)) (sym is.index)
        ∙ ap (λ o. option_map_or (issued_by (calls_of script x.id.rank) x.issued.index) o None) is.logged ∙ is.issued

-- two touches of one name are of one access
pub same_access : (script : Script) (run : Run) (a b : IssuedAccess) (u v : Touching) → IsAccess script run a →
    IsAccess script run b →
    IsTouchBy script run a u → IsTouchBy script run b v → u.id ≡ v.id → a.id ≡ b.id
same_access script run a b u v access other by of same =
    let rank : a.id.rank ≡ b.id.rank = sym by.rank ∙ ap (λ (i : Id). i.rank) same ∙ of.rank in
    let items : Some (Touch a.issued.index u.element u.cell u.place u.bits) ≡ Some
    (Touch b.issued.index v.element v.cell v.place v.bits) =
    sym (touch_logged script run a u by) ∙ ap (λ r. slice_get (log_of run r) u.id.index) rank
    ∙ ap (λ (i : Id). slice_get (log_of run b.id.rank) i.index) same ∙ touch_logged script run b v of in
    let issue : a.issued.index ≡ b.issued.index = cc items in
    let index : a.id.index ≡ b.id.index = sym access.index ∙ issue ∙ other.index in
    λ k. record { rank = rank k; index = index k }

-- an update of a cell: its access, its transfer, its element and its change
pub record IsUpdateOn (script : Script) (run : Run) (cell : ℕ) (v : Touching) (change : Change) : Type 0 where
  pub listed : In v (all_touches script run)
  pub access : IssuedAccess
  pub of_run : In access (accesses_in script run)
  pub t : Transfer
  pub is : IsOfTransfer script access t
  pub part : IsPart script run access t v
  pub makes : IsUpdateOf t part.piece change
  pub element : IsElement (layout script) access.issued.access t.dtype v.element part.piece
  pub aligned : IsAligned change.first_byte change.dtype
  pub on : v.cell ≡ cell

module _ (script : Script) (delay : Delay) (run : Run) (formed : IsWellFormed script)
    (lawful : IsLawful script delay run)
    (agree : TouchesAgree script run) (model : Model) (before : Id → Id → Bool) (order : IsOrder script run before)
    (none : findings script run model before ≡ []) (each : AreOfTransfers script run) where
  pub update_on : (cell : ℕ) (v : Touching) (change : Change) → In v (updates_of script run cell) →
      v.change ≡ Some change →
      IsUpdateOn script run cell v change
  update_on cell v change m some =
      let one = filter_in is_update (on_cell cell (all_touches script run)) m in
      let two = filter_in (is_on_cell cell) (all_touches script run) one.0 in
      let has = access_of_touch script delay run lawful v (touch_is script run two.0) in
      let access = access_is script run has.listed in
      let t = each has.access has.listed in
      let part = part_of script delay run lawful has.access t.0 v access t.1.moves has.by in
      let makes = change_is t.0 v.element part.piece change (sym part.change ∙ some) in
      let element = element_of (layout script) has.access.issued.access t.0.dtype v.element part.piece part.element in
      let aligned = piece_aligned (layout script) has.access.issued.access t.0.dtype v.element part.piece t.1.lies
      element in
      record {
        listed = two.0;
        access = has.access;
        of_run = has.listed;
        t = t.0;
        is = t.1;
        part = part;
        makes = makes;
        element = element;
        aligned = subst (λ n. IsAligned n change.dtype) (sym makes.first)
            (subst (IsAligned part.piece.first_byte) (sym makes.dtype_is) aligned);
        on = eqb-true v.cell cell two.1;
      }

  pub is_updating : (cell : ℕ) (v : Touching) (change : Change) (u : IsUpdateOn script run cell v change) →
      is_update_role (role_of u.access.issued.access.kind) ≡ true
  is_updating cell v change u = ap (λ k. is_update_role (role_of k)) u.is.kind ∙ u.is.facts.updates u.makes.updates

  pub own_target : (a : IssuedAccess) (t : Transfer) → IsOfTransfer script a t →
      is_local_role (role_of a.issued.access.kind) ≡ true →
      a.issued.access.target ≡ a.id.rank
  own_target a t is local = is.own (is.facts.local (sym (ap is_local is.kind) ∙ local_kind a.issued.access.kind local))

  -- ---- two updates of a cell

  -- an update that shares a byte with a later one is before it, or changes the same element
  pub earlier_update : (cell : ℕ) (v w : Touching) (c d : Change) → IsUpdateOn script run cell v c →
      IsUpdateOn script run cell w d →
      v.change ≡ Some c → w.change ≡ Some d → v.place < w.place → c.first_byte < d.first_byte + size_of d.dtype →
      d.first_byte < c.first_byte + size_of c.dtype →
      Before script run v.id w.id ⊎ ((c.first_byte ≡ d.first_byte) × (c.dtype ≡ d.dtype))
  earlier_update cell v w c d u x some_v some_w place low high = elim (cases_eq u.access.id.rank x.access.id.rank) [
    | inl rank ↦ elim (cases_eq u.access.id.index x.access.id.index) [
      | inl index ↦ inr (same_dtype (one_transfer (λ k. record { rank = rank k; index = index k })))
      | inr other ↦ apart (λ same. other (ap (λ (i : Id). i.index) same))
    ]
    | inr other ↦ apart (λ same. other (ap (λ (i : Id). i.rank) same))
  ]
    where
      a : IssuedAccess
      a = u.access

      b : IssuedAccess
      b = x.access

      access : IsAccess script run u.access
      access = access_is script run u.of_run

      other_access : IsAccess script run x.access
      other_access = access_is script run x.of_run

      one_transfer : u.access.id ≡ x.access.id → u.t.dtype ≡ x.t.dtype
      one_transfer same =
          let issued = same_issued script run u.access x.access access other_access same in
          let both : Some u.t ≡ Some x.t =
          sym u.is.moves ∙ ap (λ (i : Id). transfer_at (calls_of script i.rank) u.access.issued.number) same
          ∙ ap (λ p. transfer_at (calls_of script x.access.id.rank) p.number) issued ∙ x.is.moves in
          let t : u.t ≡ x.t = cc both in ap (λ (t : Transfer). t.dtype) t

      same_dtype : u.t.dtype ≡ x.t.dtype → (c.first_byte ≡ d.first_byte) × (c.dtype ≡ d.dtype)
      same_dtype same =
          let dtype : c.dtype ≡ d.dtype = u.makes.dtype_is ∙ same ∙ sym x.makes.dtype_is in (
            one_element d.dtype c.first_byte d.first_byte (subst (IsAligned c.first_byte) dtype u.aligned) x.aligned low
                (subst (λ (t : Dtype). d.first_byte < c.first_byte + size_of t) dtype high),
            dtype,
          )

      pieces_share : (p q : Piece) (e f : Dtype) → c.first_byte ≡ p.first_byte → d.first_byte ≡ q.first_byte →
          c.dtype ≡ e → d.dtype ≡ f →
          (p.first_byte < q.first_byte + size_of f) × (q.first_byte < p.first_byte + size_of e)
      pieces_share p q e f h k m n =
          let size_c : size_of c.dtype ≡ size_of e = ap size_of m in
          let size_d : size_of d.dtype ≡ size_of f = ap size_of n in
          (omega (arith, low, h, k, size_c, size_d), omega (arith, high, h, k, size_c, size_d))

      cells : u.part.piece.cell ≡ x.part.piece.cell
      cells = u.part.cell ∙ u.on ∙ sym x.on ∙ sym x.part.cell

      apart : (u.access.id ≡ x.access.id → ⊥) →
          Before script run v.id w.id ⊎ ((c.first_byte ≡ d.first_byte) × (c.dtype ≡ d.dtype))
      apart differ =
          let shares = pieces_share u.part.piece x.part.piece u.t.dtype x.t.dtype u.makes.first x.makes.first
          u.makes.dtype_is x.makes.dtype_is in
          let meet = share_byte script u.access.issued.access x.access.issued.access u.t.dtype x.t.dtype v.element
          w.element u.part.piece x.part.piece
          u.is.lies x.is.lies u.element x.element cells shares.0 shares.1 in
          let back = share_byte script x.access.issued.access u.access.issued.access x.t.dtype u.t.dtype w.element
          v.element x.part.piece u.part.piece
          x.is.lies u.is.lies x.element u.element (sym cells) shares.1 shares.0 in
          elim (meeting script run model before order none u.access x.access u.of_run x.of_run differ meet back
          (inl (is_updating cell v c u))
          (own_target u.access u.t u.is) (own_target x.access x.t x.is)) [
            | inl (inl first) ↦ inl (transitive script run v.id x.access.id w.id
                (before_issue script delay run formed lawful model before order u.access x.access v access other_access
                differ
                (λ read. absurd (no_read (role_of u.access.issued.access.kind) (is_updating cell v c u) read)) first
                u.part.by)
                (after_issue script delay run formed lawful x.access w other_access x.part.by))
            | inl (inr second) ↦
                let back_before = transitive script run w.id u.access.id v.id
                (before_issue script delay run formed lawful model before order x.access u.access w other_access access
                (λ same. differ (sym same))
                (λ read. absurd (no_read (role_of x.access.issued.access.kind) (is_updating cell w d x) read)) second
                x.part.by)
                (after_issue script delay run formed lawful u.access v access u.part.by) in
                let keeps = agree w v (in_contains x.listed) (in_contains u.listed) (x.on ∙ sym u.on)
                (λ same. differ (sym (same_access script run x.access u.access w v other_access access x.part.by
                u.part.by same))) back_before in
                let passed = update_passed w v d some_w keeps in absurd (omega (arith, passed, place))
            | inr alike ↦ inr (same_dtype (
                sym (u.is.facts.dtype_is alike.dtype alike.first (ap accumulation_of (sym u.is.kind) ∙ alike.of_a))
                ∙ x.is.facts.dtype_is alike.dtype alike.second (ap accumulation_of (sym x.is.kind) ∙ alike.of_b)
                ))
          ]
