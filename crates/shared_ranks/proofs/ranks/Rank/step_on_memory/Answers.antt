use Rattle.std.proofs.Common.{refl, ap, ◌∙◌, subst}
use Rattle.rank_engine.specs.RankStates.{needs_entry}
use Rattle.shared_ranks.proofs.Turns.{answer_memory, stepped_stays}
use Rattle.shared_ranks.proofs.ranks.Rank.step_on_memory.Goals as goal
use Rattle.shared_ranks.specs.Ranks.{IsSameMemory}

pub returns-clause-stays : goal.returns-clause-stays
returns-clause-stays g c =
    stepped_stays g.M.Memory.face g.M.Memory.knows {r = c.next_data-turned.result} c.self.view_is (record {
      going = ap (λ r. r.standing) c.self.view_is ∙ c.requires.going;
      free = c.has_room.ensures;
      sound = c.is_sound.ensures;
      needs = ap (λ r. needs_entry r.state) c.self.view_is ∙ c.requires.needs;
      answer = c.next_data-turned.ensures.answer;
      keeps = c.next_data-turned.ensures.known;
      unwritten = c.next_data-turned.ensures.unwritten;
      seat = refl;
      stands = c.after-self-inside.ensures;
    })

pub returns-clause-memory : goal.returns-clause-memory
returns-clause-memory g c =
    subst (λ r. IsSameMemory (g.M.Memory.face r.memory) (g.M.Memory.face c.next_data-turned.new.mem)) c.self.view_is
    (answer_memory g.M.Memory.face g.M.Memory.knows c.self.inside.agent c.next_data-turned.new.self
    c.self.inside.memory c.next_data-turned.new.mem c.next_data-turned.result c.next_data-turned.ensures.answer
    c.next_data-turned.ensures.unwritten)
