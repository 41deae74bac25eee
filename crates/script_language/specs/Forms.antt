-- The table of all forms of a line: the word that begins it, and the places that follow the word.
use Rattle.std.specs.Prelude.{ℕ, Bool, true, false, List, [], ◌∷◌, map, codes}
use Rattle.script_language.specs.declared.forms.CallForm.{CallForm}
use Rattle.script_language.specs.declared.forms.CallForm.TheVariants.{Allocate, Create, Dynamic, Free, Attach, Detach}
use Rattle.script_language.specs.declared.forms.CallForm.TheVariants.{Fence, Post, Start, Complete, WaitWin, TestWin}
use Rattle.script_language.specs.declared.forms.CallForm.TheVariants.{LockOne, Unlock, LockAll, UnlockAll, Flush}
use Rattle.script_language.specs.declared.forms.CallForm.TheVariants.{FlushAll, FlushLocal, FlushLocalAll, Sync}
use Rattle.script_language.specs.declared.forms.CallForm.TheVariants.{Barrier, Put, RequestPut, Get, RequestGet, Acc}
use Rattle.script_language.specs.declared.forms.CallForm.TheVariants.{RequestAcc, GetAcc, RequestGetAcc, Fop, Cas, Load}
use Rattle.script_language.specs.declared.forms.CallForm.TheVariants.{Store, WaitReq, TestReq}
use Rattle.script_language.specs.declared.forms.Form.{Form}
use Rattle.script_language.specs.declared.forms.Form.TheVariants.{Ranks, Space, Rank, Repeat, End, Call}
use Rattle.script_language.specs.declared.places.Place.{Place}
use Rattle.script_language.specs.declared.places.Place.TheVariants.{Ranks as RankCount, Owner, Room, Member, Members}
use Rattle.script_language.specs.declared.places.Place.TheVariants.{Times, Request, Window, Base, Size, Unit, LockKind}
use Rattle.script_language.specs.declared.places.Place.TheVariants.{Peer, Group, Assertions, Target, Displacement}
use Rattle.script_language.specs.declared.places.Place.TheVariants.{ElementType, Operation, Count, Compare, Value}
use Rattle.script_language.specs.declared.places.Place.TheVariants.{Values}

abbrev pub call_word : CallForm → List ℕ
call_word Allocate = codes "allocate"
call_word Create = codes "create"
call_word Dynamic = codes "dynamic"
call_word Free = codes "free"
call_word Attach = codes "attach"
call_word Detach = codes "detach"
call_word Fence = codes "fence"
call_word Post = codes "post"
call_word Start = codes "start"
call_word Complete = codes "complete"
call_word WaitWin = codes "wait"
call_word TestWin = codes "testwin"
call_word LockOne = codes "lock"
call_word Unlock = codes "unlock"
call_word LockAll = codes "lock_all"
call_word UnlockAll = codes "unlock_all"
call_word Flush = codes "flush"
call_word FlushAll = codes "flush_all"
call_word FlushLocal = codes "flush_local"
call_word FlushLocalAll = codes "flush_local_all"
call_word Sync = codes "sync"
call_word Barrier = codes "barrier"
call_word Put = codes "put"
call_word RequestPut = codes "rput"
call_word Get = codes "get"
call_word RequestGet = codes "rget"
call_word Acc = codes "acc"
call_word RequestAcc = codes "racc"
call_word GetAcc = codes "getacc"
call_word RequestGetAcc = codes "rgetacc"
call_word Fop = codes "fop"
call_word Cas = codes "cas"
call_word Load = codes "load"
call_word Store = codes "store"
call_word WaitReq = codes "waitreq"
call_word TestReq = codes "testreq"

-- the word that begins a line
abbrev pub word_of_form : Form → List ℕ
word_of_form Ranks = codes "ranks"
word_of_form Space = codes "space"
word_of_form Rank = codes "rank"
word_of_form Repeat = codes "repeat"
word_of_form End = codes "end"
word_of_form (Call form) = call_word form

abbrev pub call_places : CallForm → List Place
call_places Allocate = Window ∷ Size ∷ Unit ∷ []
call_places Create = Window ∷ Base ∷ Size ∷ Unit ∷ []
call_places Dynamic = Window ∷ []
call_places Free = Window ∷ []
call_places Attach = Window ∷ Base ∷ Size ∷ []
call_places Detach = Window ∷ Base ∷ []
call_places Fence = Window ∷ Assertions ∷ []
call_places Post = Window ∷ Group ∷ Assertions ∷ []
call_places Start = Window ∷ Group ∷ Assertions ∷ []
call_places Complete = Window ∷ []
call_places WaitWin = Window ∷ []
call_places TestWin = Window ∷ []
call_places LockOne = Window ∷ LockKind ∷ Peer ∷ Assertions ∷ []
call_places Unlock = Window ∷ Peer ∷ []
call_places LockAll = Window ∷ Assertions ∷ []
call_places UnlockAll = Window ∷ []
call_places Flush = Window ∷ Peer ∷ []
call_places FlushAll = Window ∷ []
call_places FlushLocal = Window ∷ Peer ∷ []
call_places FlushLocalAll = Window ∷ []
call_places Sync = Window ∷ []
call_places Barrier = []
call_places Put = Window ∷ Target ∷ Displacement ∷ ElementType ∷ Values ∷ []
call_places RequestPut = Request ∷ Window ∷ Target ∷ Displacement ∷ ElementType ∷ Values ∷ []
call_places Get = Window ∷ Target ∷ Displacement ∷ ElementType ∷ Count ∷ []
call_places RequestGet = Request ∷ Window ∷ Target ∷ Displacement ∷ ElementType ∷ Count ∷ []
call_places Acc = Window ∷ Target ∷ Displacement ∷ ElementType ∷ Operation ∷ Values ∷ []
call_places RequestAcc = Request ∷ Window ∷ Target ∷ Displacement ∷ ElementType ∷ Operation ∷ Values ∷ []
call_places GetAcc = Window ∷ Target ∷ Displacement ∷ ElementType ∷ Operation ∷ Values ∷ []
call_places RequestGetAcc = Request ∷ Window ∷ Target ∷ Displacement ∷ ElementType ∷ Operation ∷ Values ∷ []
call_places Fop = Window ∷ Target ∷ Displacement ∷ ElementType ∷ Operation ∷ Value ∷ []
call_places Cas = Window ∷ Target ∷ Displacement ∷ ElementType ∷ Compare ∷ Value ∷ []
call_places Load = Window ∷ Displacement ∷ ElementType ∷ Count ∷ []
call_places Store = Window ∷ Displacement ∷ ElementType ∷ Values ∷ []
call_places WaitReq = Request ∷ []
call_places TestReq = Request ∷ []

-- the places that follow the word
abbrev pub places_of : Form → List Place
places_of Ranks = RankCount ∷ []
places_of Space = Owner ∷ Room ∷ []
places_of Rank = Member ∷ Members ∷ []
places_of Repeat = Times ∷ []
places_of End = []
places_of (Call form) = call_places form

-- the place takes any number of tokens, also none
abbrev pub is_many : Place → Bool
is_many RankCount = false
is_many Owner = false
is_many Room = false
is_many Member = false
is_many Members = true
is_many Times = false
is_many Request = false
is_many Window = false
is_many Base = false
is_many Size = false
is_many Unit = false
is_many LockKind = false
is_many Peer = false
is_many Group = true
is_many Assertions = true
is_many Target = false
is_many Displacement = false
is_many ElementType = false
is_many Operation = false
is_many Count = false
is_many Compare = false
is_many Value = false
is_many Values = true

abbrev pub is_group : Place → Bool
is_group RankCount = false
is_group Owner = false
is_group Room = false
is_group Member = false
is_group Members = false
is_group Times = false
is_group Request = false
is_group Window = false
is_group Base = false
is_group Size = false
is_group Unit = false
is_group LockKind = false
is_group Peer = false
is_group Group = true
is_group Assertions = false
is_group Target = false
is_group Displacement = false
is_group ElementType = false
is_group Operation = false
is_group Count = false
is_group Compare = false
is_group Value = false
is_group Values = false

abbrev pub all_call_forms : List CallForm
all_call_forms =
    Allocate ∷ Create ∷ Dynamic ∷ Free ∷ Attach ∷ Detach ∷ Fence ∷ Post ∷ Start ∷ Complete ∷ WaitWin ∷
    TestWin ∷ LockOne ∷ Unlock ∷ LockAll ∷ UnlockAll ∷ Flush ∷ FlushAll ∷ FlushLocal ∷ FlushLocalAll ∷ Sync ∷
    Barrier ∷ Put ∷ RequestPut ∷ Get ∷ RequestGet ∷ Acc ∷ RequestAcc ∷ GetAcc ∷ RequestGetAcc ∷ Fop ∷ Cas ∷
    Load ∷ Store ∷ WaitReq ∷ TestReq ∷ []

abbrev pub all_forms : List Form
all_forms = Ranks ∷ Space ∷ Rank ∷ Repeat ∷ End ∷ map Call all_call_forms
