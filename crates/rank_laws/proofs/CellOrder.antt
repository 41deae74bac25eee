-- The touches of a rank on one cell stand in the order of their places.
use Rattle.std.proofs.Common.{◌≡◌, ℕ, suc, ◌+◌, ◌<◌, ◌≤◌, false, List, [], ◌∷◌, ◌++◌, length, Option, Some, None, refl}
use Rattle.std.proofs.Common.{sym, ◌∙◌, ap, subst, arith, append_assoc}
use Rattle.std.specs.Prelude.{slice_get, is_some}
use Rattle.std.specs.List.{AllByRecursion}
use Rattle.std.specs.Option.{option_map_or}
use Rattle.std.proofs.lemmas.Grind.{flat_map-append}
use Rattle.list_laws.proofs.Each.{each_weaker, each_at, each_append}
use Rattle.rma_types.specs.declared.calls.Call.{Call}
use Rattle.rma_types.specs.declared.scripts.Layout.{Layout}
use Rattle.rma_record.specs.declared.items.Item.{Item}
use Rattle.rma_record.specs.declared.items.Item.TheVariants.{Issue, Null, Touch, Flush, Request, Entry, Tested, Refused}
use Rattle.rma_record.specs.declared.items.Item.TheVariants.{Ended}
use Rattle.call_rules.specs.declared.elements.Change.{Change}
use Rattle.call_rules.specs.declared.elements.Piece.{Piece}
use Rattle.rma_types.specs.declared.actions.Transfer.{Transfer}
use Rattle.call_rules.specs.Pieces.{pieces}
use Rattle.call_rules.specs.Transfers.{change_of}
use Rattle.lawful_runs.specs.Accesses.{Touching, touches_among, touching_by, change_made, issued_at, issued_by}
use Rattle.lawful_runs.specs.Accesses.{transfer_at, EachPair}
use Rattle.lawful_runs.specs.Cells.{KeepsOrder}
use Rattle.lawful_runs.specs.Items.{is_touch}
use Rattle.lawful_runs.specs.Logs.{Named, named_from}
use Rattle.lawful_runs.specs.Stages.{Stage, calls_at}
use Rattle.lawful_runs.proofs.LogLaws.{named_joined}
use Rattle.lawful_runs.proofs.PairLaws.{pair_joined}
use Rattle.rank_laws.proofs.DataPaths.{its_transfer}
use Rattle.rank_laws.proofs.Histories.{most_same, most_join}
use Rattle.rank_laws.proofs.Inductions.{Keeps}
use Rattle.rank_laws.proofs.Lists.{get_rest}
use Rattle.rank_laws.proofs.Moves.{Point, Entering, OnlyEntry, LookUp, Arriving, Leaving, Learns, Rises, Ends}
use Rattle.rank_laws.proofs.Moves.{RefusesAlone, IsRefused, Tests, Passes, Enters, Issues, IssuesWhole, Draws, Delivers}
use Rattle.rank_laws.proofs.Pendings.{IsUntouched}
use Rattle.rank_laws.proofs.Touching.{issued_still}
use Rattle.rank_laws.proofs.TouchMoves.{KeepsTouches, touches_kept, plain_by_course, made_by, made_is}
use Rattle.rank_laws.specs.Deliveries.{place_after, AreTouches, AreTouchesOf}
use Rattle.rank_laws.specs.Fronts.{Lows, AreAtMost}
use Rattle.rank_rules.specs.declared.pending.PendingAccess.{PendingAccess}
use Rattle.step_runs.specs.Agents.{Agent}

-- of two touches on one cell the first is before the second
abbrev pub KeepsOnCell : Touching → Touching → Type 0
KeepsOnCell a b = a.cell ≡ b.cell → KeepsOrder a b

-- a touch is not below the lows
abbrev pub IsAbove : Lows → Touching → Type 0
IsAbove lows touch = lows touch.cell ≤ touch.place

-- the lows are past a touch
abbrev pub IsPassed : Lows → Touching → Type 0
IsPassed lows touch = place_after touch.place touch.change ≤ lows touch.cell

pub record AreInOrder (lows : Lows) (touches : List Touching) : Type 0 where
  pub order : EachPair KeepsOnCell touches
  pub passed : AllByRecursion (IsPassed lows) touches

-- a touch that the lows have passed is before one that is not below them
passed_before : (lows : Lows) (a b : Touching) (change : Option Change) → a.change ≡ change → IsPassed lows a →
    IsAbove lows b → KeepsOnCell a b
passed_before lows a b None e passed above same =
    let least : place_after a.place None ≤ lows a.cell = subst (λ c. place_after a.place c ≤ lows a.cell) e passed in
    let low : lows a.cell ≤ b.place = subst (λ c. lows c ≤ b.place) (sym same) above in
    let rising : a.place ≤ b.place = omega arith in
    rw (ap is_some e) rising
passed_before lows a b (Some change) e passed above same =
    let least : a.place + 1 ≤ lows a.cell = subst (λ c. place_after a.place c ≤ lows a.cell) e passed in
    let low : lows a.cell ≤ b.place = subst (λ c. lows c ≤ b.place) (sym same) above in
    let less : a.place < b.place = omega arith in
    rw (ap is_some e) less

-- touches that are passed, and then some that are not below the lows
in_order_joined : (lows after : Lows) (xs ys : List Touching) → AreAtMost lows after → AreInOrder lows xs →
    AreInOrder after ys → AllByRecursion (IsAbove lows) ys → AreInOrder after (xs ++ ys)
in_order_joined lows after xs ys rise first second above = record {
  order = pair_joined KeepsOnCell xs ys first.order second.order
      (each_weaker (IsPassed lows) (λ a. AllByRecursion (KeepsOnCell a) ys)
      (λ a passed. each_weaker (IsAbove lows) (KeepsOnCell a)
      (λ b over. passed_before lows a b a.change refl passed over) ys above) xs first.passed);
  passed = each_append (IsPassed after) xs ys
      (each_weaker (IsPassed lows) (IsPassed after) (λ a passed. let h = rise a.cell in omega arith) xs first.passed)
      second.passed;
}

pub touches_rise : (t : Transfer) (issue element : ℕ) (places : List Piece) (lows : Lows) (items : List Item)
    (after : Lows) → AreTouches t issue element places lows items after → AreAtMost lows after
touches_rise t issue element [] lows items after h = h.1
touches_rise t issue element (piece ∷ rest) lows items after h = most_join lows h.3 after h.6
    (touches_rise t issue (element + 1) rest h.3 h.2 after h.8)

-- the touches of one access, in a log where its Issue stands
record OwnTouches (lows after : Lows) (touches : List Touching) : Type 0 where
  order : AreInOrder after touches
  above : AllByRecursion (IsAbove lows) touches

own_first : (memory : Layout) (calls : List Call) (log : List Item) (one : PendingAccess) (t : Transfer) →
    issued_at calls log one.index ≡ Some one → transfer_at calls one.number ≡ Some t →
    (rank index element place bits : ℕ) (piece : Piece) (lows middle after : Lows) (others : List Item) →
    slice_get (pieces memory one.access t.dtype) element ≡ Some piece →
    lows piece.cell ≤ place → AreAtMost lows middle → place_after place
    (change_of t element piece.first_byte) ≤ middle piece.cell → AreAtMost middle after →
    OwnTouches middle after (touches_among memory calls log (named_from rank (index + 1) others)) →
    OwnTouches lows after (touches_among memory calls log (named_from rank index
    (Touch one.index element piece.cell place bits ∷ others)))
own_first memory calls log one t issued moves rank index element place bits piece lows middle after others at above
    rise passed rest later = record {
      order = in_order_joined middle after (first ∷ []) (touches_among memory calls log
          (named_from rank (index + 1) others)) rest now later.order later.above;
      above = (
        above,
        each_weaker (IsAbove middle) (IsAbove lows) (λ u over. let more = rise u.cell in omega arith)
            (touches_among memory calls log (named_from rank (index + 1) others)) later.above,
      );
    }
  where
    its : option_map_or (λ other. change_made memory calls other element) (issued_at calls log one.index) None
        ≡ change_of t element piece.first_byte
    its = ap (λ (o : Option PendingAccess). option_map_or (λ other. change_made memory calls other element) o None)
        issued
        ∙ ap (λ (o : Option Transfer). option_map_or (λ (u : Transfer). option_map_or
        (λ (p : Piece). change_of u element p.first_byte)
        (slice_get (pieces memory one.access u.dtype) element) None) o None) moves
        ∙ ap (λ (o : Option Piece). option_map_or (λ (p : Piece). change_of t element p.first_byte) o None) at

    first : Touching
    first = record {
      id = record { rank = rank; index = index };
      issue = one.index;
      element = element;
      cell = piece.cell;
      place = place;
      bits = bits;
      change = option_map_or (λ other. change_made memory calls other element) (issued_at calls log one.index) None;
    }

    now : AreInOrder middle (first ∷ [])
    now = record {
      order = (tt, tt);
      passed = (
        subst (λ c. place_after place c ≤ middle piece.cell) (sym its) passed,
        tt,
      );
    }

own_touches : (memory : Layout) (calls : List Call) (log : List Item) (one : PendingAccess) (t : Transfer) →
    issued_at calls log one.index ≡ Some one → transfer_at calls one.number ≡ Some t →
    (rank index element : ℕ) (places : List Piece) (lows : Lows) (items : List Item) (after : Lows) →
    AreTouches t one.index element places lows items after →
    ((k : ℕ) → slice_get (pieces memory one.access t.dtype) (element + k) ≡ slice_get places k) →
    OwnTouches lows after (touches_among memory calls log (named_from rank index items))
own_touches memory calls log one t issued moves rank index element [] lows items after h at =
    subst (λ (i : List Item). OwnTouches lows after (touches_among memory calls log (named_from rank index i)))
    (sym h.0) (record { order = record { order = tt; passed = tt }; above = tt })
own_touches memory calls log one t issued moves rank index element (piece ∷ rest) lows items after h at =
    subst (λ (i : List Item). OwnTouches lows after (touches_among memory calls log (named_from rank index i)))
    (sym h.4)
    (own_first memory calls log one t issued moves rank index element h.0 h.1 piece lows h.3 after h.2
    (ap (slice_get (pieces memory one.access t.dtype)) (omega arith) ∙ at 0) h.5 h.6 h.7
    (touches_rise t one.index (element + 1) rest h.3 h.2 after h.8)
    (own_touches memory calls log one t issued moves rank (index + 1) (element + 1) rest h.3 h.2 after h.8
    (λ k. ap (slice_get (pieces memory one.access t.dtype)) (omega arith) ∙ at (suc k))))

-- ---- a growing log

-- the touches of a log, as a log sees them that goes on after it
abbrev pub SeenInOrder : Stage → ℕ → ℕ → List Item → Lows → Type 0
SeenInOrder stage rank name log lows =
    (more : List Item) → AreInOrder lows (touches_among stage.layout (calls_at stage rank) (log ++ more)
    (named_from name 0 log))

-- some items more, whose touches are in order after those before
seen_more : (stage : Stage) (rank name : ℕ) (log items : List Item) (lows after : Lows) →
    SeenInOrder stage rank name log lows → AreAtMost lows after →
    ((more : List Item) → OwnTouches lows after (touches_among stage.layout (calls_at stage rank)
    ((log ++ items) ++ more) (named_from name (0 + length log) items))) →
    SeenInOrder stage rank name (log ++ items) after
seen_more stage rank name log items lows after h rise new more =
    let calls = calls_at stage rank in
    let all = (log ++ items) ++ more in
    let touching = touches_among stage.layout calls all in
    let old : AreInOrder lows (touching (named_from name 0 log)) =
    subst (λ (whole : List Item). AreInOrder lows (touches_among stage.layout calls whole (named_from name 0 log)))
    (sym (append_assoc log items more)) (h (items ++ more)) in
    subst (AreInOrder after)
    (sym (ap touching (named_joined name 0 log items)
    ∙ flat_map-append (λ (one : Named). touching_by stage.layout calls all one.id one.item) (named_from name 0 log)
    (named_from name (0 + length log) items)))
    (in_order_joined lows after (touching (named_from name 0 log))
    (touching (named_from name (0 + length log) items)) rise old (new more).order (new more).above)

plain_no_touching : (memory : Layout) (calls : List Call) (log : List Item) (rank index : ℕ) (item : Item) →
    is_touch item ≡ false → touches_among memory calls log (named_from rank index (item ∷ [])) ≡ []
plain_no_touching memory calls log rank index (Touch issue element cell place bits) e = absurd (cc e)
plain_no_touching memory calls log rank index (Issue number access) e = refl
plain_no_touching memory calls log rank index (Null number) e = refl
plain_no_touching memory calls log rank index (Flush number) e = refl
plain_no_touching memory calls log rank index (Request number) e = refl
plain_no_touching memory calls log rank index (Entry number place step) e = refl
plain_no_touching memory calls log rank index (Tested number seen) e = refl
plain_no_touching memory calls log rank index (Refused number class seen) e = refl
plain_no_touching memory calls log rank index Ended e = refl

plain_seen : (stage : Stage) (rank name : ℕ) (log : List Item) (item : Item) (lows : Lows) → is_touch item ≡ false →
    SeenInOrder stage rank name log lows → SeenInOrder stage rank name (log ++ item ∷ []) lows
plain_seen stage rank name log item lows plain h =
    seen_more stage rank name log (item ∷ []) lows lows h (most_same lows)
    (λ more. subst (OwnTouches lows lows) (sym (plain_no_touching stage.layout (calls_at stage rank)
    ((log ++ item ∷ []) ++ more) name (0 + length log) item plain))
    (record { order = record { order = tt; passed = tt }; above = tt }))

-- the touches of an access whose Issue stands in the log
access_seen : (stage : Stage) (rank name : ℕ) (log items : List Item) (one : PendingAccess) (lows after : Lows) →
    SeenInOrder stage rank name log lows → issued_at (calls_at stage rank) log one.index ≡ Some one →
    (o : Option Transfer) → transfer_at (calls_at stage rank) one.number ≡ o →
    AreTouchesOf stage one o lows items after → SeenInOrder stage rank name (log ++ items) after
access_seen stage rank name log items one lows after h issued None e touches =
    seen_more stage rank name log items lows after h touches.1
    (λ more. subst (λ (i : List Item). OwnTouches lows after
    (touches_among stage.layout (calls_at stage rank) ((log ++ items) ++ more)
    (named_from name (0 + length log) i))) (sym touches.0)
    (record { order = record { order = tt; passed = tt }; above = tt }))
access_seen stage rank name log items one lows after h issued (Some t) e touches =
    seen_more stage rank name log items lows after h (touches_rise t one.index 0 _ lows items after touches)
    (λ more. own_touches stage.layout (calls_at stage rank) ((log ++ items) ++ more) one t
    (issued_still (calls_at stage rank) (log ++ items) more one.index one
    (issued_still (calls_at stage rank) log items one.index one issued)) e name
    (0 + length log) 0 _ lows items after touches
    (λ k. ap (slice_get (pieces stage.layout one.access t.dtype)) (omega arith)))

-- ---- moves

pub record KeepsOrderOfCells (stage : Stage) (p : Point) : Type 0 where
  pub touches : KeepsTouches stage p.agent
  pub seen : (name : ℕ) → SeenInOrder stage p.agent.rank name p.agent.log p.lows

entered_seen : (stage : Stage) (p : Point) (call : Call) (step : _) (after : Agent → Agent) (next : Agent)
    (lows : Lows) → Entering stage p.agent call step after →
    ((name : ℕ) → SeenInOrder stage next.rank name next.log lows) → (name : ℕ) →
    SeenInOrder stage (after next).rank name (after next).log lows
entered_seen stage p call _ _ next lows (OnlyEntry begins course) h = h
entered_seen stage p call _ _ next lows (LookUp begins course) h = h
entered_seen stage p call _ _ next lows (Arriving begins course) h = h
entered_seen stage p call _ _ next lows (Leaving here inside moves) h = h

seen_rises : (stage : Stage) (rank name : ℕ) (log : List Item) (lows after : Lows) → AreAtMost lows after →
    SeenInOrder stage rank name log lows → SeenInOrder stage rank name log after
seen_rises stage rank name log lows after rise h more =
    let old = h more in
    record {
      order = old.order;
      passed = each_weaker (IsPassed lows) (IsPassed after)
          (λ a passed. let low = rise a.cell in omega arith) (touches_among stage.layout (calls_at stage rank)
          (log ++ more) (named_from name 0 log)) old.passed;
    }

pub order_kept : (stage : Stage) → Keeps stage (KeepsOrderOfCells stage)
order_kept stage p _ h (Learns more others) = record { touches = h.touches; seen = h.seen }
order_kept stage p _ h (Rises after rise) = record {
  touches = h.touches;
  seen = λ name. seen_rises stage p.agent.rank name p.agent.log p.lows after rise (h.seen name);
}
order_kept stage p _ h (Ends past empty going) = record {
  touches = touches_kept stage p _ h.touches (Ends past empty going);
  seen = λ name. plain_seen stage p.agent.rank name p.agent.log Ended p.lows refl (h.seen name);
}
order_kept stage p _ h (RefusesAlone call class here new refuses) = record {
  touches = touches_kept stage p _ h.touches (RefusesAlone call class here new refuses);
  seen = λ name. plain_seen stage p.agent.rank name p.agent.log (Refused p.agent.at class 0) p.lows refl
      (h.seen name);
}
order_kept stage p _ h (IsRefused call class begins has answer) = record {
  touches = touches_kept stage p _ h.touches (IsRefused call class begins has answer);
  seen = λ name. plain_seen stage p.agent.rank name p.agent.log (Refused p.agent.at class (length p.rows)) p.lows refl
      (h.seen name);
}
order_kept stage p _ h (Tests call begins course answer) = record {
  touches = touches_kept stage p _ h.touches (Tests call begins course answer);
  seen = λ name. plain_seen stage p.agent.rank name p.agent.log (Tested p.agent.at (length p.rows)) p.lows refl
      (h.seen name);
}
order_kept stage p _ h (Passes call item begins plain) = record {
  touches = touches_kept stage p _ h.touches (Passes call item begins plain);
  seen = λ name. plain_seen stage p.agent.rank name p.agent.log item p.lows
      (plain_by_course (calls_at stage p.agent.rank) 0 _ p.agent.at item plain).0 (h.seen name);
}
order_kept stage p _ h (Enters call step after entering answer) = record {
  touches = touches_kept stage p _ h.touches (Enters call step after entering answer);
  seen = entered_seen stage p call step after _ p.lows entering
      (λ name. plain_seen stage p.agent.rank name p.agent.log (Entry p.agent.at (length p.rows) step) p.lows refl
      (h.seen name));
}
order_kept stage p _ h (Issues call t access issuing later) = record {
  touches = touches_kept stage p _ h.touches (Issues call t access issuing later);
  seen = λ name. plain_seen stage p.agent.rank name p.agent.log (Issue p.agent.at access) p.lows refl (h.seen name);
}
order_kept stage p _ h (IssuesWhole call t access items after issuing once touches) = record {
  touches = touches_kept stage p _ h.touches (IssuesWhole call t access items after issuing once touches);
  seen = λ name.
      let calls = calls_at stage p.agent.rank in
      let item = Issue p.agent.at access in
      let its : issued_at calls (p.agent.log ++ item ∷ []) (length p.agent.log) ≡ Some (made_by p.agent access t) =
      ap (λ (o : Option Item). option_map_or (issued_by calls (length p.agent.log)) o None)
      (get_rest p.agent.log (item ∷ []) (length p.agent.log) 0 (omega arith))
      ∙ made_is stage p.agent call t access issuing in
      access_seen stage p.agent.rank name (p.agent.log ++ item ∷ []) items (made_by p.agent access t) p.lows after
      (plain_seen stage p.agent.rank name p.agent.log item p.lows refl (h.seen name)) its (Some t)
      (its_transfer stage p.agent call t issuing.here issuing.moves) touches;
}
order_kept stage p _ h (Draws state new) =
    let old = touches_kept stage p _ h.touches (Draws state new) in record { touches = old; seen = h.seen }
order_kept stage p _ h (Delivers at one items after there due touches) =
    let here : IsUntouched (calls_at stage p.agent.rank) p.agent.log one = each_at
    (IsUntouched (calls_at stage p.agent.rank) p.agent.log) p.agent.pending at one h.touches.has.waiting there in
    record {
      touches = touches_kept stage p _ h.touches (Delivers at one items after there due touches);
      seen = λ name. access_seen stage p.agent.rank name p.agent.log items one p.lows after
          (h.seen name) here.0 _ refl touches;
    }
