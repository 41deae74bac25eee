-- The live requests of a rank: MPI 3.1, section 11.3.5.
use Rattle.std.specs.Prelude.{ℕ, Bool, not, List, [], ◌∷◌, replicate, slice_index_or, slice_set, is_some, Option, Some}
use Rattle.std.specs.Prelude.{None}
use Rattle.std.specs.Option.{option_map_or}
use Rattle.rma_types.specs.declared.classes.Class.{Class}
use Rattle.rma_types.specs.declared.classes.Class.TheVariants.{Request}
use Rattle.rma_types.specs.declared.actions.Action.{Action}
use Rattle.rma_types.specs.declared.actions.Action.TheVariants.{Creates, Frees, Attaches, Detaches, Synchronises, Meets}
use Rattle.rma_types.specs.declared.actions.Action.TheVariants.{Moves, EndsRequest}
use Rattle.rank_rules.specs.Classes.{Test, first_class}

-- for each of the names q0 to q63, the number of the call that made the live request of that name, if there is one
abbrev pub Requests : Type 0
Requests = List (Option ℕ)

abbrev pub no_requests : Requests
no_requests = replicate 64 None

-- the number of the call that made the live request of this name
abbrev pub maker_of : Requests → ℕ → Option ℕ
maker_of requests name = slice_index_or requests name None

abbrev pub is_live_request : Requests → ℕ → Bool
is_live_request requests name = is_some (maker_of requests name)

-- a request of this name is made by the call of this number
abbrev pub with_request : Requests → ℕ → ℕ → Requests
with_request requests number name = slice_set requests name (Some number)

abbrev pub without_request : Requests → ℕ → Requests
without_request requests name = slice_set requests name None

-- the live requests after the accepted call of this number; waitreq and testreq both end their request
abbrev pub requests_after : Requests → ℕ → Action → Requests
requests_after requests number (Creates creation) = requests
requests_after requests number (Frees win) = requests
requests_after requests number (Attaches win base bytes) = requests
requests_after requests number (Detaches win base) = requests
requests_after requests number (Synchronises win s) = requests
requests_after requests number Meets = requests
requests_after requests number (Moves t) = option_map_or (with_request requests number) t.request requests
requests_after requests number (EndsRequest req) = without_request requests req

-- the test of a call: a request form names no live request, and waitreq and testreq name one
abbrev pub request_tests : Requests → Action → List Test
request_tests requests (Creates creation) = []
request_tests requests (Frees win) = []
request_tests requests (Attaches win base bytes) = []
request_tests requests (Detaches win base) = []
request_tests requests (Synchronises win s) = []
request_tests requests Meets = []
request_tests requests (Moves t) =
    option_map_or (λ name. (is_live_request requests name, Request) ∷ []) t.request []
request_tests requests (EndsRequest req) = (not (is_live_request requests req), Request) ∷ []

-- the class by which the rank refuses the call for its request, or none
abbrev pub request_class : Requests → Action → Option Class
request_class requests action = first_class (request_tests requests action)
