-- A name that is one of the table.
use Rattle.std.proofs.Common.{◌≡◌, ℕ, List, ◌∷◌, Option, Result, sym, subst}
use Rattle.std.specs.Prelude.{IfOk}
use Rattle.std.specs.declared.alloc.AllocError.{AllocError}
use Rattle.vhost_frontend_core.specs.declared.values.call.FrontendCall as code
use Rattle.vhost_lines.specs.Calls.{Call, call_named}
use Rattle.vhost_lines.specs.Read.{called, read_for}

-- the call of a name is that of the name's text
pub by_name : (first all : List (List ℕ)) {name key : List ℕ} {call : Option Call} → name ≡ key
    → call ≡ call_named (key ∷ read_for key first all) → call ≡ call_named (name ∷ read_for name first all)
by_name first all {call = call} is named = subst (λ (n : List ℕ). call ≡ call_named (n ∷ read_for n first all)) (sym is) named

-- the same, where there was memory for it
pub by_name-ok : (first all : List (List ℕ)) (result : Result (Option code.FrontendCall) AllocError) {name key : List ℕ} → name ≡ key
    → IfOk result (λ call. called call ≡ call_named (key ∷ read_for key first all)) → IfOk result (λ call. called call ≡ call_named (name ∷ read_for name first all))
by_name-ok first all result is named = subst (λ (n : List ℕ). IfOk result (λ call. called call ≡ call_named (n ∷ read_for n first all))) (sym is) named
