-- The entry is the next one, on the window that its name and its round have.
use Rattle.std.proofs.Common.{ℕ, List}
use Rattle.std.specs.Option.{option_map}
use Rattle.entry_gains.specs.ByPlace.{front_of}
use Rattle.entry_gains.specs.Gains.{row_of}
use Rattle.entry_gains.proofs.BegunWindows.{begun_after, coming_is_next}
use Rattle.entry_gains.proofs.by_place.GainsByPlace.enter.Goals as goal

pub returns-clause-gains : goal.returns-clause-gains
returns-clause-gains c = λ ranks entries number coming keeps.
    c.gained-gained.ensures.gains ranks entries number
    (coming_is_next ranks entries (row_of c.args.rank number c.args.call.now c.args.step) c.args.self.now.begun
    c.begins_window-begins.result c.window_named-name.result coming keeps.begun c.requires.rank
    (c.begins_window-begins.ensures c.args.rank number) c.window_named-name.ensures.name
    c.window_named-name.ensures.below c.number-window.result c.number-window.ensures.none
    c.number-window.ensures.named)
    (c.in_ok-reserve.ensures.keeps ranks entries keeps.gains)

pub returns-clause-keeps : goal.returns-clause-keeps
returns-clause-keeps c = λ ranks entries number coming keeps.
    let next = coming_is_next ranks entries (row_of c.args.rank number c.args.call.now c.args.step)
    c.args.self.now.begun c.begins_window-begins.result c.window_named-name.result coming keeps.begun c.requires.rank
    (c.begins_window-begins.ensures c.args.rank number) c.window_named-name.ensures.name
    c.window_named-name.ensures.below c.number-window.result c.number-window.ensures.none
    c.number-window.ensures.named in
    record {
      gains = c.put.ensures.keeps ranks entries number next
          (c.gained-gained.ensures.keeps ranks entries (c.in_ok-reserve.ensures.keeps ranks entries keeps.gains));
      begun = begun_after ranks entries (row_of c.args.rank number c.args.call.now c.args.step)
          c.args.self.now.begun c.begins_window-begins.result c.window_named-name.result coming keeps.begun
          c.requires.rank (c.begins_window-begins.ensures c.args.rank number) c.window_named-name.ensures.name
          c.window_named-name.ensures.below c.add.new.self (option_map front_of c.args.gift) c.add.ensures.here
          c.add.ensures.others;
    }
