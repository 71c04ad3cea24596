-- The rows of requests of a device: how they refuse, and that a call stays one whatever is replied.
use Rattle.std.proofs.Common.{◌≡◌, ℕ, Bool, true, false, ◌&&◌, List, [], ◌∷◌, Result, Ok, Err, refl, sym, ap, ◌∙◌}
use Rattle.std.specs.Prelude.{⊤, if◌then◌else◌}
use Rattle.vhost_message.specs.declared.backend_req.BackendReq.{BackendReq}
use Rattle.vhost_message.specs.declared.backend_req.BackendReq.TheVariants.{CONFIG_CHANGE_MSG, SHARED_OBJECT_ADD, SHARED_OBJECT_REMOVE, SHARED_OBJECT_LOOKUP, SHMEM_MAP, SHMEM_UNMAP}
use Rattle.vhost_message.specs.Records.{mmap_of}
use Rattle.vhost_message.specs.Valid.{is_valid_mmap}
use Rattle.vhost_protocol.specs.Error.{Error, InvalidMessage}
use Rattle.vhost_protocol.specs.Reverse.{ReverseCall, ReverseFollows, ReverseMeets, ReverseOutcome, ReverseStep, Refused, Calls, Server, bad_body, object_row, mapping_row, reverse_row_of, with_number, with_one_handle}
use Rattle.vhost_protocol.specs.Row.{is_bare, is_valid_name, name_of}
use Rattle.vhost_protocol.specs.Split.{Message}
use Rattle.vhost_protocol.specs.Stream.{Cell}
use Rattle.vhost_link.specs.declared.plain.PlainHandle.{PlainHandle}
use Rattle.vhost_frontend_req_handler.specs.Halves.{uncalled}
use Rattle.vhost_frontend_req_handler.specs.Handling.{fitting}

abbrev Row : Type 0
Row = ReverseStep PlainHandle

abbrev Request : Type 0
Request = Message BackendReq PlainHandle

-- ---- refusals

-- each is of an invalid message
abbrev Fine : Row → Type 0
Fine (Refused o) = o.answer ≡ Err InvalidMessage
Fine (Calls c next) = ⊤

either : (b : Bool) (x y : Row) → Fine x → Fine y → Fine (if b then x else y)
either true x y p q = p
either false x y p q = q

one-fine : (hs : List PlainHandle) (next : PlainHandle → Row) → ((h : PlainHandle) → Fine (next h)) → Fine (with_one_handle hs next)
one-fine [] next fine = refl
one-fine (h ∷ hs) next fine = fine h

row-fine : (r : BackendReq) (s : Server) (m : Request) → Fine (reverse_row_of r s m)
row-fine CONFIG_CHANGE_MSG s m = either (is_bare 0 m) _ _ tt refl
row-fine SHARED_OBJECT_ADD s m = either (is_bare 16 m && is_valid_name (name_of m.body)) _ _ tt refl
row-fine SHARED_OBJECT_REMOVE s m = either (is_bare 16 m && is_valid_name (name_of m.body)) _ _ tt refl
row-fine SHARED_OBJECT_LOOKUP s m = one-fine m.handles _ (λ h. either (is_bare 16 m && is_valid_name (name_of m.body)) _ _ tt refl)
row-fine SHMEM_MAP s m = one-fine m.handles _ (λ h. either (is_bare 40 m && is_valid_mmap (mmap_of m.body)) _ _ tt refl)
row-fine SHMEM_UNMAP s m = either (is_bare 40 m && is_valid_mmap (mmap_of m.body)) _ _ tt refl
row-fine _ s m = refl

followed : (x : Row) (o : ReverseOutcome PlainHandle) → Fine x → ReverseFollows (fitting uncalled) tt x o tt → o.answer ≡ Err InvalidMessage
followed (Refused q) o fine f = ap {A = ReverseOutcome PlainHandle} (λ x. x.answer) f.0 ∙ fine
followed (Calls c next) o fine f = absurd f.1.0

-- where nobody is called
pub row-invalid : (s : Server) (m : Request) (answer : Result ℕ Error) (written : List (Cell PlainHandle)) (s' : Server) → ReverseMeets (fitting uncalled) s tt m answer written s' tt → answer ≡ Err InvalidMessage
row-invalid s m answer written s' met = met.2 ∙ followed (reverse_row_of m.request s m) met.0 (row-fine m.request s m) met.1

-- ---- a call stays one

module _ (s t : Server) (m : Request) (k : ReverseCall PlainHandle) where
  if-again : (b : Bool) (c : ReverseCall PlainHandle) → (if b then Calls c (with_number s m) else bad_body) ≡ Calls k (with_number s m) → (if b then Calls c (with_number t m) else bad_body) ≡ Calls k (with_number t m)
  if-again true c is = let same : c ≡ k = cc is in ap (λ x. Calls x (with_number t m)) same
  if-again false c is = absurd (cc is)

  one-again : (hs : List PlainHandle) (next next' : PlainHandle → Row) → ((h : PlainHandle) → next h ≡ Calls k (with_number s m) → next' h ≡ Calls k (with_number t m)) → with_one_handle hs next ≡ Calls k (with_number s m) → with_one_handle hs next' ≡ Calls k (with_number t m)
  one-again [] next next' each is = absurd (cc is)
  one-again (h ∷ hs) next next' each is = each h is

  pub row-again : (r : BackendReq) → reverse_row_of r s m ≡ Calls k (with_number s m) → reverse_row_of r t m ≡ Calls k (with_number t m)
  row-again CONFIG_CHANGE_MSG is = if-again (is_bare 0 m) _ is
  row-again SHARED_OBJECT_ADD is = if-again (is_bare 16 m && is_valid_name (name_of m.body)) _ is
  row-again SHARED_OBJECT_REMOVE is = if-again (is_bare 16 m && is_valid_name (name_of m.body)) _ is
  row-again SHARED_OBJECT_LOOKUP is = one-again m.handles _ _ (λ h at. if-again (is_bare 16 m && is_valid_name (name_of m.body)) _ at) is
  row-again SHMEM_MAP is = one-again m.handles _ _ (λ h at. if-again (is_bare 40 m && is_valid_mmap (mmap_of m.body)) _ at) is
  row-again SHMEM_UNMAP is = if-again (is_bare 40 m && is_valid_mmap (mmap_of m.body)) _ is
  row-again _ is = absurd (cc is)
