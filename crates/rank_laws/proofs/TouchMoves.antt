-- Every move keeps the touches of a rank's log in order.
use Rattle.std.proofs.Common.{◌≡◌, ℕ, inl, inr, Bool, true, false, cond, List, [], ◌∷◌, ◌++◌, length, take, Option}
use Rattle.std.proofs.Common.{Some, None, refl, sym, ◌∙◌, ap, subst, arith, append-nil}
use Rattle.std.specs.Prelude.{slice_get, nat_lt}
use Rattle.std.specs.List.{AllByRecursion, position}
use Rattle.std.specs.Option.{option_map_or}
use Rattle.std.proofs.lemmas.Bool.{ltb-false}
use Rattle.list_laws.proofs.Lists.{get_last, last_removed}
use Rattle.rma_types.specs.declared.accesses.Access.{Access}
use Rattle.rma_types.specs.declared.calls.Call.{Call}
use Rattle.rma_types.specs.declared.schedules.Delay.{Delay}
use Rattle.rma_types.specs.declared.schedules.Delay.TheVariants.{None as NoDelay, End as EndDelay}
use Rattle.rma_types.specs.declared.schedules.Delay.TheVariants.{Seeded as SeededDelay}
use Rattle.rma_record.specs.declared.items.Item.{Item}
use Rattle.rma_record.specs.declared.items.Item.TheVariants.{Issue}
use Rattle.rma_types.specs.declared.actions.Transfer.{Transfer}
use Rattle.call_rules.specs.Pieces.{pieces}
use Rattle.lawful_runs.specs.Accesses.{issued_by}
use Rattle.lawful_runs.specs.Items.{is_touch}
use Rattle.lawful_runs.specs.Stages.{Stage, calls_at}
use Rattle.lawful_runs.specs.TouchLaw.{is_local, elements_from}
use Rattle.lawful_runs.proofs.TouchLaws.{local_is_unordered}
use Rattle.rank_laws.proofs.DataPaths.{its_transfer, no_pieces}
use Rattle.rank_laws.proofs.Inductions.{Keeps}
use Rattle.rank_laws.proofs.Lists.{each_of, none_passes}
use Rattle.rank_laws.proofs.Moves.{Point, Entering, OnlyEntry, LookUp, Arriving, Leaving, IsPlainItem, Issuing, Learns}
use Rattle.rank_laws.proofs.Moves.{Rises, Ends, RefusesAlone, IsRefused, Tests, Passes, Enters, Issues, IssuesWhole}
use Rattle.rank_laws.proofs.Moves.{Draws, Delivers}
use Rattle.rank_laws.proofs.Pendings.{HasTouches, MakesPending, Touches, elements_of, item_more, touches_more}
use Rattle.rank_laws.proofs.Touching.{touches_own, touches_of_own, touches_elements, touches_whole}
use Rattle.rank_laws.specs.Deliveries.{AreTouches}
use Rattle.rank_laws.specs.Fronts.{Lows}
use Rattle.rank_rules.specs.Courses.{Course, OneNull, OneIssue, LookUpAndIssue, OneFlush, OneRequest, ArriveAndLeave}
use Rattle.rank_rules.specs.Courses.{EntryOrTested, OneEntry}
use Rattle.rank_rules.specs.Pending.{gives_way, first_in_way}
use Rattle.rank_rules.specs.declared.pending.PendingAccess.{PendingAccess}
use Rattle.step_runs.specs.Agents.{Agent}
use Rattle.step_runs.specs.DataSteps.{is_at_once}

-- the touches of a rank's log, and that nothing is pending where nothing is delayed
pub record KeepsTouches (stage : Stage) (agent : Agent) : Type 0 where
  pub has : HasTouches stage.layout (calls_at stage agent.rank) agent.log agent.pending
  pub undelayed : stage.delay ≡ NoDelay → agent.pending ≡ []

-- ---- items without an access

pub plain_more : (stage : Stage) (calls : List Call) (log : List Item) (pending : List PendingAccess) (item : Item) →
    is_touch item ≡ false → issued_by calls (length log) item ≡ None →
    HasTouches stage.layout calls log pending → HasTouches stage.layout calls (log ++ item ∷ []) pending
plain_more stage calls log pending item plain none has =
    subst (HasTouches stage.layout calls (log ++ item ∷ [])) (append-nil pending)
    (item_more stage.layout calls log pending [] item has (record {
      plain = plain;
      its = tt;
      all = λ one e. absurd (cc (sym none ∙ e));
      single = tt;
    }))

pub plain_by_course : (calls : List Call) (index : ℕ) (course : Course) (number : ℕ) (item : Item) →
    IsPlainItem course number item → (is_touch item ≡ false) × (issued_by calls index item ≡ None)
plain_by_course calls index OneNull number item e = (ap is_touch e, ap (issued_by calls index) e)
plain_by_course calls index OneIssue number item e = absurd e
plain_by_course calls index LookUpAndIssue number item e = absurd e
plain_by_course calls index OneFlush number item e = (ap is_touch e, ap (issued_by calls index) e)
plain_by_course calls index OneRequest number item e = (ap is_touch e, ap (issued_by calls index) e)
plain_by_course calls index ArriveAndLeave number item e = absurd e
plain_by_course calls index EntryOrTested number item e = absurd e
plain_by_course calls index OneEntry number item e = absurd e

-- ---- Issues

-- the access that an Issue makes
abbrev pub made_by : Agent → Access → Transfer → PendingAccess
made_by agent access t = record { index = length agent.log; number = agent.at; access = access; fetches = t.fetches }

pub made_is : (stage : Stage) (agent : Agent) (call : Call) (t : Transfer) (access : Access) →
    Issuing stage agent call t access →
    issued_by (calls_at stage agent.rank) (length agent.log) (Issue agent.at access) ≡ Some (made_by agent access t)
made_is stage agent call t access issuing =
    ap (λ (o : Option Transfer). option_map_or (λ (u : Transfer). Some (made_by agent access u)) o None)
    (its_transfer stage agent call t issuing.here issuing.moves)

pub made_elements : (stage : Stage) (agent : Agent) (call : Call) (t : Transfer) (access : Access) →
    Issuing stage agent call t access →
    elements_of stage.layout (calls_at stage agent.rank) (made_by agent access t) ≡ elements_from 0
    (pieces stage.layout access t.dtype)
made_elements stage agent call t access issuing =
    ap (λ (o : Option Transfer). elements_from 0 (option_map_or
    (λ (u : Transfer). pieces stage.layout access u.dtype) o []))
    (its_transfer stage agent call t issuing.here issuing.moves)

-- what an Issue makes pending
makes_by : (stage : Stage) (agent : Agent) (call : Call) (t : Transfer) (access : Access) →
    Issuing stage agent call t access → (b : Bool) → nat_lt 0 access.len ≡ b →
    MakesPending stage.layout (calls_at stage agent.rank) (length agent.log) (Issue agent.at access)
    (cond b (made_by agent access t ∷ []) [])
makes_by stage agent call t access issuing true e = record {
  plain = refl;
  its = (made_is stage agent call t access issuing, tt);
  all = λ one some. let same : made_by agent access t ≡ one = let both = sym
      (made_is stage agent call t access issuing) ∙ some in cc both in inr (inl same);
  single = (tt, tt);
}
makes_by stage agent call t access issuing false e = record {
  plain = refl;
  its = tt;
  all = λ one some.
      let same : made_by agent access t ≡ one = let both = sym (made_is stage agent call t access issuing)
      ∙ some in cc both in
      let low = ltb-false 0 access.len e in
      inl (subst (λ (i : PendingAccess). elements_of stage.layout (calls_at stage agent.rank) i ≡ []) same
      (made_elements stage agent call t access issuing ∙ ap (elements_from 0)
      (no_pieces stage access t (omega arith))));
  single = tt;
}

local_gives_no_way : (later earlier : PendingAccess) → is_local later.access.kind ≡ true →
    gives_way later earlier ≡ false
local_gives_no_way later earlier e = rw (local_is_unordered later.access.kind e) refl

once_is_first : (stage : Stage) (agent : Agent) (access : Access) (t : Transfer) → KeepsTouches stage agent →
    (d : Delay) → stage.delay ≡ d → is_at_once d access ≡ true →
    AllByRecursion (λ (other : PendingAccess). gives_way (made_by agent access t) other ≡ false) agent.pending
once_is_first stage agent access t keeps NoDelay e once =
    subst (AllByRecursion (λ (other : PendingAccess). gives_way (made_by agent access t) other ≡ false))
    (sym (keeps.undelayed e)) tt
once_is_first stage agent access t keeps EndDelay e once =
    each_of (λ (other : PendingAccess). gives_way (made_by agent access t) other ≡ false)
    (λ other. local_gives_no_way (made_by agent access t) other once) agent.pending
once_is_first stage agent access t keeps SeededDelay e once =
    each_of (λ (other : PendingAccess). gives_way (made_by agent access t) other ≡ false)
    (λ other. local_gives_no_way (made_by agent access t) other once) agent.pending

take_front : {X : Type 0} (xs ys : List X) → take (length xs) (xs ++ ys) ≡ xs
take_front [] ys = refl
take_front (x ∷ xs) ys = ap (λ zs. x ∷ zs) (take_front xs ys)

-- an Issue and its touches
whole_more : (stage : Stage) (agent : Agent) (call : Call) (t : Transfer) (access : Access) (items : List Item)
    (lows after : Lows) → Issuing stage agent call t access →
    is_at_once stage.delay access ≡ true → AreTouches t (length agent.log) 0
    (pieces stage.layout access t.dtype) lows items after → KeepsTouches stage agent →
    (b : Bool) → nat_lt 0 access.len ≡ b →
    HasTouches stage.layout (calls_at stage agent.rank) ((agent.log ++ Issue agent.at access ∷ [])
    ++ items) agent.pending
whole_more stage agent call t access items lows after issuing once touches keeps true e =
    let calls = calls_at stage agent.rank in
    let one = made_by agent access t in
    let issued = item_more stage.layout calls agent.log agent.pending (one ∷ []) (Issue agent.at access) keeps.has
    (makes_by stage agent call t access issuing true e) in
    let all : Touches stage.layout calls (agent.pending ++ one ∷ []) (length agent.pending) one items = record {
      there = get_last agent.pending one;
      own = touches_own t (length agent.log) 0 _ lows items after touches;
      whole = touches_elements t (length agent.log) 0 _ lows items after touches
          ∙ sym (made_elements stage agent call t access issuing);
      first = subst (AllByRecursion (λ (other : PendingAccess). gives_way one other ≡ false))
          (sym (take_front agent.pending (one ∷ []))) (once_is_first stage agent access t keeps stage.delay refl
          once);
    } in
    subst (HasTouches stage.layout calls ((agent.log ++ Issue agent.at access ∷ []) ++ items))
    (last_removed agent.pending one)
    (touches_more stage.layout calls (agent.log ++ Issue agent.at access ∷ []) (agent.pending ++ one ∷ [])
    (length agent.pending) one items issued all)
whole_more stage agent call t access items lows after issuing once touches keeps false e =
    let calls = calls_at stage agent.rank in
    let low = ltb-false 0 access.len e in
    let none : AreTouches t (length agent.log) 0 [] lows items after = subst
    (λ places. AreTouches t (length agent.log) 0 places lows items after)
    (no_pieces stage access t (omega arith)) touches in
    let issued = item_more stage.layout calls agent.log agent.pending [] (Issue agent.at access) keeps.has
    (makes_by stage agent call t access issuing false e) in
    subst (λ (more : List Item). HasTouches stage.layout calls
    ((agent.log ++ Issue agent.at access ∷ []) ++ more) agent.pending) (sym none.0)
    (subst (λ (log : List Item). HasTouches stage.layout calls log agent.pending)
    (sym (append-nil (agent.log ++ Issue agent.at access ∷ [])))
    (subst (HasTouches stage.layout calls (agent.log ++ Issue agent.at access ∷ []))
    (append-nil agent.pending) issued))

-- ---- deliveries

-- an access that gives way to none of the earlier ones
gives_way_to_none : (pending : List PendingAccess) (at : ℕ) (one : PendingAccess) → slice_get pending at ≡ Some one →
    first_in_way pending at ≡ None →
    AllByRecursion (λ (other : PendingAccess). gives_way one other ≡ false) (take at pending)
gives_way_to_none pending at one there free =
    none_passes (gives_way one) (take at pending)
    (ap (λ (o : Option PendingAccess). option_map_or (λ (x : PendingAccess). position (gives_way x)
    (take at pending)) o None) (sym there) ∙ free)

-- ---- moves

entered_touches : (stage : Stage) (p : Point) (call : Call) (step : _) (after : Agent → Agent) (next : Agent) →
    Entering stage p.agent call step after →
    next.rank ≡ p.agent.rank → next.pending ≡ p.agent.pending →
    HasTouches stage.layout (calls_at stage next.rank) next.log next.pending →
    (stage.delay ≡ NoDelay → next.pending ≡ []) → KeepsTouches stage (after next)
entered_touches stage p call _ _ next (OnlyEntry begins course) r e has none = record { has = has; undelayed = none }
entered_touches stage p call _ _ next (LookUp begins course) r e has none = record { has = has; undelayed = none }
entered_touches stage p call _ _ next (Arriving begins course) r e has none = record { has = has; undelayed = none }
entered_touches stage p call _ _ next (Leaving here inside moves) r e has none = record {
  has = has;
  undelayed = none;
}

late_is_delayed : (d : Delay) (access : Access) → is_at_once d access ≡ false → d ≡ NoDelay → ⊥
late_is_delayed NoDelay access e same = cc e
late_is_delayed EndDelay access e same = cc same
late_is_delayed SeededDelay access e same = cc same

pub touches_kept : (stage : Stage) → Keeps stage (λ p. KeepsTouches stage p.agent)
touches_kept stage p _ h (Learns more others) = h
touches_kept stage p _ h (Rises after rise) = h
touches_kept stage p _ h (Ends past empty going) = record {
  has = plain_more stage _ p.agent.log p.agent.pending _
      refl refl h.has;
  undelayed = h.undelayed;
}
touches_kept stage p _ h (RefusesAlone call class here new refuses) = record
    { has = plain_more stage _ p.agent.log p.agent.pending _ refl refl h.has; undelayed = h.undelayed }
touches_kept stage p _ h (IsRefused call class begins has answer) = record
    { has = plain_more stage _ p.agent.log p.agent.pending _ refl refl h.has; undelayed = h.undelayed }
touches_kept stage p _ h (Tests call begins course answer) = record
    { has = plain_more stage _ p.agent.log p.agent.pending _ refl refl h.has; undelayed = h.undelayed }
touches_kept stage p _ h (Passes call item begins plain) =
    let is = plain_by_course (calls_at stage p.agent.rank) (length p.agent.log) _ p.agent.at item plain in
    record { has = plain_more stage _ p.agent.log p.agent.pending item is.0 is.1 h.has; undelayed = h.undelayed }
touches_kept stage p _ h (Enters call step after entering answer) =
    entered_touches stage p call step after _ entering refl refl
    (plain_more stage _ p.agent.log p.agent.pending _ refl refl h.has) h.undelayed
touches_kept stage p _ h (Issues call t access issuing later) = record {
  has = item_more stage.layout (calls_at stage p.agent.rank) p.agent.log p.agent.pending _
      (Issue p.agent.at access) h.has
      (makes_by stage p.agent call t access issuing (nat_lt 0 access.len) refl);
  undelayed = λ e. absurd (late_is_delayed stage.delay access later e);
}
touches_kept stage p _ h (IssuesWhole call t access items after issuing once touches) = record {
  has = whole_more stage p.agent call t access items p.lows after issuing once touches h (nat_lt 0 access.len) refl;
  undelayed = h.undelayed;
}
touches_kept stage p _ h (Draws state new) = record { has = h.has; undelayed = h.undelayed }
touches_kept stage p _ h (Delivers at one items after there due touches) = record {
  has = touches_more stage.layout (calls_at stage p.agent.rank) p.agent.log p.agent.pending at one items h.has
      (record {
        there = there;
        own = touches_of_own stage one _ p.lows items after touches;
        whole = touches_whole stage (calls_at stage p.agent.rank) one p.lows items after touches;
        first = gives_way_to_none p.agent.pending at one there due.free;
      });
  undelayed = λ e. absurd (cc (sym (ap (λ (pending : List PendingAccess). slice_get pending at) (h.undelayed e))
      ∙ there));
}
