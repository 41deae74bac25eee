-- What seats know, and what each step makes of that.
use Rattle.std.specs.Prelude.{ℕ, ◌+◌, ◌-◌, List, [], ◌∷◌, ◌++◌, length, map, sum, slice_set}
use Rattle.call_rules.specs.declared.cells.Cell.{Cell}
use Rattle.cell_face.specs.Fronts.{greater}
use Rattle.cell_words.specs.declared.views.Look.{Look}
use Rattle.cell_words.specs.declared.views.View.{View}

abbrev pub look : ℕ → Cell → Look
look cell seen = record { cell = cell; seen = seen }

-- its share and the number of its updates
abbrev pub held : View → ℕ
held view = view.share + length view.made

-- what a seat holds, and what it may still deal
abbrev pub grant_of : View → ℕ
grant_of view = held view + sum view.deal

-- a view that made and saw nothing
abbrev pub fresh : List ℕ → ℕ → List ℕ → View
fresh lows share deal = record { lows = lows; made = []; known = []; share = share; deal = deal }

abbrev pub zeros : List ℕ → List ℕ
zeros init = map (λ _. 0) init

-- the first seat: all shares are to be dealt
abbrev pub first_view : List ℕ → List ℕ → View
first_view init shares = fresh (zeros init) 0 shares

-- lowest places alone
abbrev pub bare : List ℕ → View
bare lows = fresh lows 0 []

-- a seat that was taken in
abbrev pub spent : View
spent = bare []

-- the shares after the next, and the next
abbrev pub tail : List ℕ → List ℕ
tail [] = []
tail (share ∷ shares) = shares

abbrev pub head : List ℕ → ℕ
head [] = 0
head (share ∷ shares) = share

-- the seat after the next share was dealt
abbrev pub without_next : View → View
without_next view = record {
  lows = view.lows;
  made = view.made;
  known = view.known;
  share = view.share;
  deal = tail view.deal;
}

-- the new seat, with that share
abbrev pub next_dealt : View → View
next_dealt view = fresh view.lows (head view.deal) []

-- two seats as one
abbrev pub joined : View → View → View
joined view other = record {
  lows = greater view.lows other.lows;
  made = view.made ++ other.made;
  known = view.known ++ other.known;
  share = view.share + other.share;
  deal = view.deal ++ other.deal;
}

-- a state was seen
abbrev pub with_look : View → ℕ → Cell → View
with_look view cell seen = record {
  lows = slice_set view.lows cell seen.place;
  made = view.made;
  known = view.known ++ look cell seen ∷ [];
  share = view.share;
  deal = view.deal;
}

-- an update of the state that was seen was made, and left these bits
abbrev pub with_update : View → ℕ → Cell → ℕ → View
with_update view cell seen bits = record {
  lows = slice_set view.lows cell (seen.place + 1);
  made = view.made ++ record { cell = cell; place = seen.place; before = seen.bits; after = bits } ∷ [];
  known = view.known ++ look cell seen ∷ [];
  share = view.share - 1;
  deal = view.deal;
}
