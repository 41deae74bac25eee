-- One access more of a group.
use Rattle.std.proofs.Common.{◌≡◌, ◌∷◌, ◌++◌, [], sym, subst}
use Rattle.std.specs.Prelude.{cond}
use Rattle.access_index.specs.Lists.{OrdinalTable, classes_in, group_eq, ordinals_in, region_eq}
use Rattle.access_index.specs.declared.regions.Group.{Group}
use Rattle.access_index.proofs.Puts.{added, kept, some_of}
use Rattle.access_index.proofs.Sames.{group_same, group_self, region_same, region_self}
use Rattle.access_index.proofs.Sounds.{sound_more}
use Rattle.access_index.proofs.index.AccessIndex.put.Goals as goal

abbrev listed_now : goal.In_ok-note → Type 0
listed_now c = (other : Group) → ordinals_in c.note.new.self.ordinals other
    ≡ cond (group_eq c.args.group other) (ordinals_in c.args.self.now.ordinals c.args.group ++ c.args.ordinal ∷ [])
    (ordinals_in c.args.self.now.ordinals other)

put_there : (c : goal.In_ok-note) → listed_now c
put_there c other =
    subst (λ (t : OrdinalTable). ordinals_in t other
    ≡ cond (group_eq c.args.group other) (ordinals_in c.args.self.now.ordinals c.args.group ++ c.args.ordinal ∷ [])
    (ordinals_in c.args.self.now.ordinals other)) (sym c.in_ok-note.ensures.ordinals)
    (c.in_ok-put_ordinal.ensures.listed other)

pub returns-in_ok-note-clause-sound : goal.returns-in_ok-note-clause-sound
returns-in_ok-note-clause-sound c rows sound one last =
    let old = c.args.self.now in
    let group = c.args.group in
    sound_more old c.note.new.self group c.args.ordinal (put_there c) rows sound
    (kept region_eq region_same region_self (classes_in old.classes) (classes_in c.note.new.self.classes) group.region
    group.class c.in_ok-note.ensures.classes)
    (added region_eq region_same region_self (classes_in old.classes) (classes_in c.note.new.self.classes) group.region
    group.class c.in_ok-note.ensures.classes) (c.in_ok-note.ensures.found sound.regions) one last

pub returns-in_ok-note-clause-keeps : goal.returns-in_ok-note-clause-keeps
returns-in_ok-note-clause-keeps c =
    kept group_eq group_same group_self (ordinals_in c.args.self.now.ordinals)
    (ordinals_in c.note.new.self.ordinals) c.args.group c.args.ordinal (put_there c)

pub returns-in_ok-note-clause-listed : goal.returns-in_ok-note-clause-listed
returns-in_ok-note-clause-listed c =
    added group_eq group_same group_self (ordinals_in c.args.self.now.ordinals)
    (ordinals_in c.note.new.self.ordinals) c.args.group c.args.ordinal (put_there c)

pub returns-else-branch-clause-sound : goal.returns-else-branch-clause-sound
returns-else-branch-clause-sound c rows sound one last =
    let old = c.args.self.now in
    let group = c.args.group in
    let some = some_of (ordinals_in old.ordinals group) (c.in_ok-put_ordinal.ensures.first c.if-branch.false) in
    sound_more old (record old { ordinals = c.put_ordinal.new.table }) group c.args.ordinal
    c.in_ok-put_ordinal.ensures.listed rows sound (λ region class has. has)
    (sound.classes group some.0 some.1) sound.regions one last

pub returns-else-branch-clause-keeps : goal.returns-else-branch-clause-keeps
returns-else-branch-clause-keeps c =
    kept group_eq group_same group_self (ordinals_in c.args.self.now.ordinals)
    (ordinals_in c.put_ordinal.new.table) c.args.group c.args.ordinal c.in_ok-put_ordinal.ensures.listed

pub returns-else-branch-clause-listed : goal.returns-else-branch-clause-listed
returns-else-branch-clause-listed c =
    added group_eq group_same group_self (ordinals_in c.args.self.now.ordinals)
    (ordinals_in c.put_ordinal.new.table) c.args.group c.args.ordinal c.in_ok-put_ordinal.ensures.listed
