-- One access of the second list.
use Rattle.std.proofs.Common.{◌≡◌, ◌<◌, ℕ, get_or, length, refl, sym, subst, arith}
use Rattle.std.specs.Prelude.{slice_index}
use Rattle.order_rules.specs.Ordered.{JudgedAccess}
use Rattle.first_points.specs.Alike.{judged_by}
use Rattle.vector_clocks.specs.Marks.{before_in}
use Rattle.access_sweeps.specs.Places.{ArePartners, IsLeastOf, judged_at}
use Rattle.access_sweeps.specs.Sweeps.{IsChosen, IsFront, IsFrontFrom, IsLater, accesses_of, passed_of}
use Rattle.access_sweeps.proofs.Partners.{chosen_least, chosen_partners, front_from, judged_read, settled_least}
use Rattle.access_sweeps.proofs.sweeps.Sweep.pass.Goals as goal
use Rattle.access_sweeps.proofs.sweeps.Sweep.pass.Goals.{After-result-1}

pub returns-then-is_settled-clause-least : goal.returns-then-is_settled-clause-least
returns-then-is_settled-clause-least c model swept front =
    settled_least model c.args.self.now swept c.args.best.now
    (slice_index c.args.self.now.second.now c.args.at) (c.is_settled.ensures c.if-is_settled.true)

abbrev place : After-result-1 → ℕ
place c = slice_index c.args.self.now.second.now c.args.at

abbrev access : After-result-1 → JudgedAccess
access c = judged_by (get_or c.args.self.now.accesses.now (place c) c.index-self-b.result)

at_hand : (c : After-result-1) → access c ≡ judged_at (accesses_of c.args.self.now) (place c)
at_hand c = judged_read c.args.self.now.accesses.now (place c) c.index-self-b.result
    (c.requires.second_list c.args.at c.requires.there)

front_here : (c : After-result-1) → IsFrontFrom c.args.self.now c.args.front c.args.at →
    IsFront (passed_of c.args.self.now) c.args.front (access c)
front_here c front = subst (IsFront (passed_of c.args.self.now) c.args.front) (sym (at_hand c))
    (front c.args.at (omega arith) c.requires.there)

chosen : (c : After-result-1) → IsFrontFrom c.args.self.now c.args.front c.args.at →
    IsChosen (passed_of c.args.self.now) c.choice-choice.result.at (judged_at (accesses_of c.args.self.now) (place c))
chosen c front = subst (IsChosen (passed_of c.args.self.now) c.choice-choice.result.at) (at_hand c)
    (c.choice-choice.ensures.choice (front_here c front)).0

within : (c : After-result-1) → place c < length c.args.best.now
within c =
    let low = c.requires.second_list c.args.at c.requires.there in
    let long = c.requires.best in
    omega (arith, low, long)

pub returns-clause-front : goal.returns-clause-front
returns-clause-front c model swept front j order there =
    let s = c.args.self.now in
    (c.choice-choice.ensures.choice (front_here c front)).1 (judged_at (accesses_of s) (slice_index s.second.now j))
    (subst (λ (y : JudgedAccess). IsLater (passed_of s) y (judged_at (accesses_of s) (slice_index s.second.now j)))
    (sym (at_hand c)) (front_from model s swept (place c) c.args.at c.requires.there refl j order there))
    (front j order there)

pub returns-clause-partners : goal.returns-clause-partners
returns-clause-partners c model swept front are =
    let s = c.args.self.now in
    subst (ArePartners model (before_in s.clocks.now) (accesses_of s)) (sym c.improve_at.ensures)
    (chosen_partners model s swept c.args.best.now c.args.at c.choice-choice.result.at (place c) c.requires.there refl
    (within c) (chosen c front) are)

pub returns-clause-least : goal.returns-clause-least
returns-clause-least c model swept front =
    let s = c.args.self.now in
    subst (IsLeastOf model (before_in s.clocks.now) (accesses_of s) s.first.now (place c)) (sym c.improve_at.ensures)
    (chosen_least model s swept c.args.best.now c.args.at c.choice-choice.result.at (place c) c.requires.there refl
    (within c) (chosen c front))
