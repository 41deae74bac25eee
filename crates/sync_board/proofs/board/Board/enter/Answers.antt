use Rattle.std.proofs.Common.{◌≡◌, ◌+◌, ◌<◌, IfSome, List, [], ◌∷◌, ◌++◌, length, ap, sym, ◌∙◌, subst, arith, Option}
use Rattle.std.proofs.lemmas.List.{length-append}
use Rattle.std.specs.Option.{option_map}
use Rattle.rma_types.specs.declared.calls.Call.{Call}
use Rattle.rma_types.specs.Actions.{action_of, transfer_of}
use Rattle.board_rules.specs.Board.{Allow, decide}
use Rattle.board_rules.specs.Entries.{Row, acts}
use Rattle.kept_rows.specs.Gifts.{Front, Given, gained_by, rows_given}
use Rattle.kept_rows.specs.KeptCalls.{kept_row}
use Rattle.kept_rows.proofs.GiftLaws.{rows_more}
use Rattle.entry_gains.specs.Gains.{IsNext, Keeps, one_more}
use Rattle.sync_board.specs.Asked.{IsAfter, row_asked}
use Rattle.sync_board.specs.Boards.{BoardState, IsLayoutOf, LooksInside, NamesRanks, rows_on, with_entry}
use Rattle.sync_board.specs.Counted.{KeepsState}
use Rattle.sync_board.specs.Named.{KeepsWindows}
use Rattle.sync_board.specs.Lists.{IsList, entries_in}
use Rattle.sync_board.proofs.BoardSteps.{entered_list, gift_from, givens_length, list_more, looks, names_so}
use Rattle.sync_board.proofs.BoardSteps.{same_entries, unchanged, whole_of}
use Rattle.sync_board.proofs.LookUps.{looks_inside}
use Rattle.sync_board.proofs.board.Board.enter.Goals as goal

pub invariant_of-self : goal.invariant_of-self
invariant_of-self g c =
    let after = subst (λ (b : BoardState). IsAfter (rows_on b) c.args.asked.now) (sym c.self.view_is) c.requires.after
    in
    let ranks = subst (λ (b : BoardState). c.args.asked.now.ranks ≡ b.ranks) (sym c.self.view_is) c.requires.ranks in
    let rows = rows_given (entries_in g.N.Token.front c.self.inside.list) in
    let before = subst (λ n. KeepsState c.self.inside.layout n
    (rows_given (entries_in g.N.Token.front c.self.inside.list)) c.self.inside.state)
    (sym ranks) c.self.invariant.done in
    unchanged g.N.Token.front g.N.Token.origin c.self.inside.ranks c.self.inside.layout c.self.inside.list
    c.prepare_entry.new.list c.self.inside.state c.prepare_entry.new.state c.self.inside.gains
    c.prepare_entry.new.gains c.self.inside.root
    c.self.invariant c.prepare_entry.ensures.rows c.prepare_entry.ensures.kept
    (subst (λ n. KeepsState c.self.inside.layout n (rows_given (entries_in g.N.Token.front c.self.inside.list))
    c.prepare_entry.new.state) ranks (c.in-Err.ensures.unchanged rows after before))
    (c.prepare_entry.ensures.gains c.self.inside.ranks (entries_in g.N.Token.front c.self.inside.list)
    c.self.invariant.given)
    (c.prepare_entry.ensures.sound (g.N.Token.origin c.self.inside.root) c.self.invariant.sound)

pub invariant_of-self-in-Err-2 : goal.invariant_of-self-in-Err-2
invariant_of-self-in-Err-2 g c =
    let after = subst (λ (b : BoardState). IsAfter (rows_on b) c.args.asked.now) (sym c.self.view_is) c.requires.after
    in
    let ranks = subst (λ (b : BoardState). c.args.asked.now.ranks ≡ b.ranks) (sym c.self.view_is) c.requires.ranks in
    let rows = rows_given (entries_in g.N.Token.front c.self.inside.list) in
    let before = subst (λ n. KeepsState c.self.inside.layout n
    (rows_given (entries_in g.N.Token.front c.self.inside.list)) c.self.inside.state)
    (sym ranks) c.self.invariant.done in
    unchanged g.N.Token.front g.N.Token.origin c.self.inside.ranks c.self.inside.layout c.self.inside.list
    c.prepare_entry.new.list c.self.inside.state c.prepare_entry.new.state c.self.inside.gains
    c.prepare_entry.new.gains c.self.inside.root
    c.self.invariant c.prepare_entry.ensures.rows c.prepare_entry.ensures.kept
    (subst (λ n. KeepsState c.self.inside.layout n (rows_given (entries_in g.N.Token.front c.self.inside.list))
    c.prepare_entry.new.state) ranks (c.in-Err.ensures.unchanged rows after before))
    (c.prepare_entry.ensures.gains c.self.inside.ranks (entries_in g.N.Token.front c.self.inside.list)
    c.self.invariant.given)
    (c.prepare_entry.ensures.sound (g.N.Token.origin c.self.inside.root) c.self.invariant.sound)

pub gained-gained-requires : goal.gained-gained-requires
gained-gained-requires g c =
    whole_of g.N.Token.origin (g.N.Token.origin c.self.inside.root) c.prepare_entry.new.gains
    (c.prepare_entry.ensures.sound (g.N.Token.origin c.self.inside.root) c.self.invariant.sound)

pub put-requires-clause-whole : goal.put-requires-clause-whole
put-requires-clause-whole g c =
    whole_of g.N.Token.origin (g.N.Token.origin c.self.inside.root) c.gained-gained.new.self
    (c.gained-gained.ensures.sound (g.N.Token.origin c.self.inside.root)
    (c.prepare_entry.ensures.sound (g.N.Token.origin c.self.inside.root) c.self.invariant.sound))

pub put-requires-clause-gift : goal.put-requires-clause-gift
put-requires-clause-gift g c =
    gift_from g.N.Token.origin (g.N.Token.origin c.self.inside.root) c.gained-gained.new.self c.forked-kept.new.gift
    (c.forked-kept.ensures.origin (g.N.Token.origin c.self.inside.root)
    (subst (λ (b : BoardState). IfSome c.args.gift (λ token. g.N.Token.origin token ≡ b.name))
    (sym c.self.view_is) c.requires.gift))
    (c.gained-gained.ensures.sound (g.N.Token.origin c.self.inside.root)
    (c.prepare_entry.ensures.sound (g.N.Token.origin c.self.inside.root) c.self.invariant.sound))

pub invariant_of-self-in-Ok : goal.invariant_of-self-in-Ok
invariant_of-self-in-Ok g c =
    let front = g.N.Token.front in
    let inside = c.self.inside in
    let entries : List Given = entries_in g.N.Token.front c.self.inside.list in
    let rows : List Row = rows_given (entries_in g.N.Token.front c.self.inside.list) in
    let row : Row = row_asked c.args.asked.now in
    let after = subst (λ (b : BoardState). IsAfter (rows_on b) c.args.asked.now) (sym c.self.view_is) c.requires.after
    in
    let next : IsNext c.self.inside.ranks entries row c.args.asked.now.window = record {
      rank = subst (λ (b : BoardState). c.args.asked.now.rank < b.ranks) (sym c.self.view_is)
          c.requires.asked.entry.below;
      is_on = sym after.window;
      named = names_so c.self.inside.ranks (action_of c.args.asked.now.call.now)
          (subst (λ (b : BoardState). NamesRanks b.ranks (action_of c.args.asked.now.call.now))
          (sym c.self.view_is) c.requires.asked.entry.names);
    } in
    let same : entries_in g.N.Token.front c.prepare_entry.new.list ≡ entries = same_entries g.N.Token.front
    c.self.inside.list c.prepare_entry.new.list c.prepare_entry.ensures.rows c.prepare_entry.ensures.kept in
    let sizes : IsList c.prepare_entry.new.list = rw (c.prepare_entry.ensures.rows, c.prepare_entry.ensures.kept)
    c.self.invariant.sizes in
    let by_call : Call → Given = λ call. record {
      row = record {
        rank = c.args.asked.now.rank;
        number = c.args.asked.now.number;
        call = call;
        step =
            c.args.asked.now.step;
      };
      gift = option_map g.N.Token.front c.forked-kept.result;
    } in
    let by_gift : Option Front → Given = λ gift. record { row = kept_row (row_asked c.args.asked.now); gift = gift } in
    let total : entries_in g.N.Token.front c.push.new.self ≡ one_more entries row
    (option_map g.N.Token.front c.args.gift) =
    entered_list g.N.Token.front c.prepare_entry.new.list c.push.new.self _ _ sizes c.push.ensures.rows
    c.push.ensures.kept
    ∙ (ap (λ (es : List Given). es ++ by_call c.in-Ok.prepared.call ∷ []) same
    ∙ ap (λ (x : Given). entries ++ x ∷ []) (ap by_call c.in-Ok.ensures.call ∙ ap by_gift c.forked-kept.ensures.front))
    in
    let given = c.prepare_entry.ensures.gains c.self.inside.ranks entries c.self.invariant.given in
    let name = g.N.Token.origin c.self.inside.root in
    let sound = c.prepare_entry.ensures.sound (g.N.Token.origin c.self.inside.root) c.self.invariant.sound in
    let ranks = subst (λ (b : BoardState). c.args.asked.now.ranks ≡ b.ranks) (sym c.self.view_is) c.requires.ranks in
    let before = subst (λ n. KeepsState c.self.inside.layout n rows c.self.inside.state)
    (sym ranks) c.self.invariant.done in
    let allowed = subst (λ n. decide n rows row ≡ Allow) (sym ranks)
    (subst (λ (b : BoardState). decide b.ranks (rows_on b) row ≡ Allow) (sym c.self.view_is) c.requires.allowed) in
    let done = subst (λ n. KeepsState c.self.inside.layout n (rows ++ kept_row row ∷ []) c.prepare_entry.new.state)
    ranks (c.in-Ok.ensures.entered rows after allowed before) in
    let put = subst (λ (gift : Option Front). Keeps g.N.Token.front c.self.inside.ranks (one_more entries row gift)
    c.put.new.self) c.forked-kept.ensures.same
    (c.put.ensures.keeps c.self.inside.ranks entries c.args.asked.now.number next
    (c.gained-gained.ensures.keeps c.self.inside.ranks entries given)) in
    let long : length c.push.new.self.rows.items ≡ length c.prepare_entry.new.list.rows.items + 1 = ap length
    c.push.ensures.rows ∙ length-append c.prepare_entry.new.list.rows.items _ in
    let few = c.in-Ok.ensures.space.few in
    record {
      few = c.self.invariant.few;
      layout_of = c.self.invariant.layout_of;
      sizes = list_more c.prepare_entry.new.list c.push.new.self _ _ sizes c.push.ensures.rows c.push.ensures.kept;
      short = omega (arith, few);
      done = subst (λ (es : List Given). KeepsState c.self.inside.layout c.self.inside.ranks
          (rows_given es) c.prepare_entry.new.state) (sym total)
          (subst (λ (rs : List Row). KeepsState c.self.inside.layout c.self.inside.ranks rs c.prepare_entry.new.state)
          (sym (rows_more entries (by_gift (option_map g.N.Token.front c.args.gift)))) done);
      given = subst (λ (es : List Given). Keeps g.N.Token.front c.self.inside.ranks es c.put.new.self) (sym total) put;
      sound = c.put.ensures.sound (g.N.Token.origin c.self.inside.root)
          (c.gained-gained.ensures.sound (g.N.Token.origin c.self.inside.root) sound);
    }

pub returns-in-Ok-clause-answer : goal.returns-in-Ok-clause-answer
returns-in-Ok-clause-answer g c =
    let front = g.N.Token.front in
    let inside = c.self.inside in
    let entries : List Given = entries_in g.N.Token.front c.self.inside.list in
    let rows : List Row = rows_given (entries_in g.N.Token.front c.self.inside.list) in
    let row : Row = row_asked c.args.asked.now in
    let after = subst (λ (b : BoardState). IsAfter (rows_on b) c.args.asked.now) (sym c.self.view_is) c.requires.after
    in
    let next : IsNext c.self.inside.ranks entries row c.args.asked.now.window = record {
      rank = subst (λ (b : BoardState). c.args.asked.now.rank < b.ranks) (sym c.self.view_is)
          c.requires.asked.entry.below;
      is_on = sym after.window;
      named = names_so c.self.inside.ranks (action_of c.args.asked.now.call.now)
          (subst (λ (b : BoardState). NamesRanks b.ranks (action_of c.args.asked.now.call.now))
          (sym c.self.view_is) c.requires.asked.entry.names);
    } in
    let same : entries_in g.N.Token.front c.prepare_entry.new.list ≡ entries = same_entries g.N.Token.front
    c.self.inside.list c.prepare_entry.new.list c.prepare_entry.ensures.rows c.prepare_entry.ensures.kept in
    let sizes : IsList c.prepare_entry.new.list = rw (c.prepare_entry.ensures.rows, c.prepare_entry.ensures.kept)
    c.self.invariant.sizes in
    let by_call : Call → Given = λ call. record {
      row = record {
        rank = c.args.asked.now.rank;
        number = c.args.asked.now.number;
        call = call;
        step =
            c.args.asked.now.step;
      };
      gift = option_map g.N.Token.front c.forked-kept.result;
    } in
    let by_gift : Option Front → Given = λ gift. record { row = kept_row (row_asked c.args.asked.now); gift = gift } in
    let total : entries_in g.N.Token.front c.push.new.self ≡ one_more entries row
    (option_map g.N.Token.front c.args.gift) =
    entered_list g.N.Token.front c.prepare_entry.new.list c.push.new.self _ _ sizes c.push.ensures.rows
    c.push.ensures.kept
    ∙ (ap (λ (es : List Given). es ++ by_call c.in-Ok.prepared.call ∷ []) same
    ∙ ap (λ (x : Given). entries ++ x ∷ []) (ap by_call c.in-Ok.ensures.call ∙ ap by_gift c.forked-kept.ensures.front))
    in
    let given = c.prepare_entry.ensures.gains c.self.inside.ranks entries c.self.invariant.given in
    let name = g.N.Token.origin c.self.inside.root in
    let sound = c.prepare_entry.ensures.sound (g.N.Token.origin c.self.inside.root) c.self.invariant.sound in
    let board : List Given → BoardState = λ es. record {
      ranks = c.self.inside.ranks;
      layout = c.self.inside.layout;
      name = g.N.Token.origin c.self.inside.root;
      entries = es;
    } in
    let length_is : c.len-place.result ≡ length c.prepare_entry.new.list.rows.items = omega arith in
    let windows = subst (λ (b : BoardState). KeepsWindows b.layout b.ranks
    (acts (rows_on b)) c.self.inside.state.windows.names.items) c.self.view_is c.self.invariant.done.windows in
    let layout = subst (λ (b : BoardState). IsLayoutOf b.ranks b.layout) c.self.view_is c.self.invariant.layout_of in
    let at = c.requires.after.window ∙ c.requires.after.number in
    record {
      allowed = c.requires.allowed;
      at_end = length_is ∙ (ap length c.prepare_entry.ensures.rows
          ∙ (sym (givens_length g.N.Token.front c.self.inside.list.rows.items c.self.inside.list.kept.items
          c.self.invariant.sizes) ∙ ap (λ (b : BoardState). length b.entries) c.self.view_is));
      put = ap board total ∙ ap (λ (b : BoardState). with_entry b row (option_map g.N.Token.front c.args.gift))
          c.self.view_is;
      gains = c.gained-gained.ensures.gains c.self.inside.ranks entries c.args.asked.now.number next given
          ∙ ap (λ (b : BoardState). gained_by b.ranks b.entries row) c.self.view_is;
      from = subst (λ (b : BoardState). IfSome c.gained-gained.result (λ token. g.N.Token.origin token ≡ b.name))
          c.self.view_is (c.gained-gained.ensures.origin (g.N.Token.origin c.self.inside.root) sound);
      makes = c.in-Ok.ensures.made c.args.self.now (sym c.requires.ranks) layout at windows;
      look_up = looks (transfer_of c.args.asked.now.call.now) (LooksInside c.args.self.now.layout c.args.asked.now.rank)
          (λ t is. looks_inside c.args.self.now.layout c.args.self.now.ranks (rows_on c.args.self.now) row t
          c.self.inside.state.windows.names.items c.args.asked.now.round c.args.asked.now.name
          windows at c.requires.name is c.requires.asked.entry.fits c.requires.allowed);
    }
