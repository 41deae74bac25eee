-- Where each token tells its front, each gift tells the lowest places.
use Rattle.std.proofs.Common.{◌≡◌, ◌∙◌, ◌++◌, ℕ, Bool, true, false, cond, List, [], ◌∷◌, length, drop, Option, Some, None}
use Rattle.std.proofs.Common.{refl, sym, ap, subst}
use Rattle.std.specs.Prelude.{IfSome, IsSome}
use Rattle.std.specs.List.{AllByRecursion}
use Rattle.std.proofs.Math.Seq.{drop-append_seam}
use Rattle.list_laws.proofs.Each.{each_back}
use Rattle.cell_face.specs.Faces.{Face}
use Rattle.kept_rows.specs.Gifts.{Front, Given}
use Rattle.sync_board.specs.Boards.{BoardState, IsFrontOfToken, IsGiftOfToken}
use Rattle.rank_engine.specs.BoardAnswers.{AlwaysTells, IsGift, IsGiven, IsTold, TellsLows, gives}

-- the front of a token, where each token tells one
front_told : {N : Type 0} (front_of : N → Front) (face : Face) (front : Front) → AlwaysTells front_of →
    IsFrontOfToken front_of front → TellsLows face front → front ≡ Some face.lows
front_told front_of face None always is tells =
    let some : IsSome {T = List ℕ} None = subst IsSome (sym is.same) (always is.token) in absurd (cc some)
front_told front_of face (Some places) always is tells = ap Some tells

gift_told : {N : Type 0} (front_of : N → Front) (face : Face) (given : Bool) (gift : Option Front) →
    AlwaysTells front_of → IfSome gift (IsFrontOfToken front_of) → IsGift face given gift →
    gift ≡ cond given (Some (Some face.lows)) None
gift_told front_of face false gift always is h = h
gift_told front_of face true None always is h = absurd h
gift_told front_of face true (Some front) always is h = ap Some (front_told front_of face front always is h)

each_told : {N : Type 0} (front_of : N → Front) (face : Face) (given : List Given) → AlwaysTells front_of →
    AllByRecursion (IsGiftOfToken front_of) given → AllByRecursion (IsGiven face) given →
    AllByRecursion (IsTold face) given
each_told front_of face [] always tokens h = tt
each_told front_of face (one ∷ given) always tokens h = (
  gift_told front_of face (gives one.row.step one.row.call) one.gift always tokens.0 h.0,
  each_told front_of face given always tokens.1 h.1,
)

-- the gifts of the entries that were put
pub gifts_told : {N : Type 0} (front_of : N → Front) (face : Face) (before after : BoardState) (given : List Given) →
    after ≡ record before { entries = before.entries ++ given } → AllByRecursion (IsGiven face) given →
    AllByRecursion (IsGiftOfToken front_of) after.entries → AlwaysTells front_of →
    AllByRecursion (IsTold face) (drop (length before.entries) after.entries)
gifts_told front_of face before after given is h tokens always =
    let entries = ap (λ (b : BoardState). b.entries) is in
    subst (AllByRecursion (IsTold face))
    (sym (ap (drop (length before.entries)) entries ∙ drop-append_seam before.entries given))
    (each_told front_of face given always (each_back (IsGiftOfToken front_of) before.entries given
    (subst (AllByRecursion (IsGiftOfToken front_of)) entries tokens)) h)

-- where nothing was put
pub none_told : (face : Face) (entries : List Given) →
    AllByRecursion (IsTold face) (drop (length entries) entries)
none_told face [] = tt
none_told face (one ∷ entries) = none_told face entries
