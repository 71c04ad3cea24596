-- No line asks for requests that are sent as replies.
use Rattle.std.proofs.Common.{◌≡◌, ℕ, Bool, true, false, List, [], ◌∷◌, Option, Some, None, arith, refl, subst}
use Rattle.std.specs.Prelude.{⊤, bit_and, option_map, if◌then◌else◌, ◌==◌}
use Rattle.std.specs.Str.{bytes_eq, is_utf8}
use Rattle.std.proofs.lemmas.Bool.{eqb-true}
use Rattle.std.proofs.lemmas.Nat.Bits.{bit_at_and}
use Rattle.vhost_message.specs.Bits.{has_bit}
use Rattle.vhost_protocol.specs.FrontendCall.{SetVringNum, SetVringBase, SetVringCall, SetVringKick, SetVringErr, SetVringEnable, SetLogBase, GetInflightFd, SetInflightFd, AddMemRegion, RemoveMemRegion, SetDeviceStateFd, SetMemTable, GetConfig, SetConfig, SetHdrFlags}
use Rattle.vhost_joined.specs.Lockstep.{IsPlain}
use Rattle.vhost_lines.specs.Arguments.{◌>>=◌, enabled, header_flags, config_flags, handle, direction, phase, byte_string, within}
use Rattle.vhost_lines.specs.Number.{u64, u32, u16}
use Rattle.vhost_lines.specs.Shapes.{bare, one, two, three, optional}
use Rattle.vhost_lines.specs.Calls.{Call, buffer, only_region, regions, set_log_base, set_vring_addr, area, get_inflight_fd, set_inflight_fd, add_mem_region, remove_mem_region, set_mem_table, calls, named, call_named, call_in}
use Rattle.vhost_lines.specs.Words.{words}

-- of a value, where there is one
abbrev Every : {A : Type 0} → (A → Type 0) → Option A → Type 0
Every P None = ⊤
Every P (Some a) = P a

every-map : {A B : Type 0} (P : B → Type 0) (f : A → B) → ((a : A) → P (f a)) → (o : Option A) → Every P (option_map f o)
every-map P f holds None = tt
every-map P f holds (Some a) = holds a

every-then : {A B : Type 0} (P : B → Type 0) (k : A → Option B) → ((a : A) → Every P (k a)) → (o : Option A) → Every P (o >>= k)
every-then P k holds None = tt
every-then P k holds (Some a) = holds a

-- of a test that leads to it, or to another
every-if : {A : Type 0} (P : A → Type 0) (test : Bool) (a b : Option A) → Every P a → Every P b → Every P (if test then a else b)
every-if P true a b holds other = holds
every-if P false a b other holds = holds

abbrev Plain : Option Call → Type 0
Plain = Every IsPlain

-- ---- by the number of arguments

bare-plain : (call : Call) → IsPlain call → (args : List (List ℕ)) → Plain (bare call args)
bare-plain call plain [] = plain
bare-plain call plain (_ ∷ _) = tt

one-plain : {A : Type 0} (first : List ℕ → Option A) (call : A → Call) → ((a : A) → IsPlain (call a)) → (args : List (List ℕ)) → Plain (one first call args)
one-plain first call plain [] = tt
one-plain first call plain (a ∷ []) = every-map IsPlain call plain (first a)
one-plain first call plain (a ∷ b ∷ _) = tt

two-plain : {A B : Type 0} (first : List ℕ → Option A) (second : List ℕ → Option B) (call : A → B → Call) → ((a : A) (b : B) → IsPlain (call a b)) → (args : List (List ℕ)) → Plain (two first second call args)
two-plain first second call plain [] = tt
two-plain first second call plain (a ∷ []) = tt
two-plain first second call plain (a ∷ b ∷ []) = every-then IsPlain (λ x. option_map (call x) (second b)) (λ x. every-map IsPlain (call x) (plain x) (second b)) (first a)
two-plain first second call plain (a ∷ b ∷ c ∷ _) = tt

three-plain : {A B D : Type 0} (first : List ℕ → Option A) (second : List ℕ → Option B) (third : List ℕ → Option D) (call : A → B → D → Call)
    → ((a : A) (b : B) (d : D) → IsPlain (call a b d)) → (args : List (List ℕ)) → Plain (three first second third call args)
three-plain first second third call plain [] = tt
three-plain first second third call plain (a ∷ []) = tt
three-plain first second third call plain (a ∷ b ∷ []) = tt
three-plain first second third call plain (a ∷ b ∷ d ∷ []) =
    every-then IsPlain (λ x. second b >>= λ y. option_map (call x y) (third d)) (λ x.
    every-then IsPlain (λ y. option_map (call x y) (third d)) (λ y. every-map IsPlain (call x y) (plain x y) (third d)) (second b)) (first a)
three-plain first second third call plain (a ∷ b ∷ d ∷ e ∷ _) = tt

-- ---- the others

log-plain : (args : List (List ℕ)) → Plain (set_log_base args)
log-plain [] = tt
log-plain (base ∷ []) = every-map IsPlain (λ b. SetLogBase b None) (λ b. tt) (u64 base)
log-plain (base ∷ size ∷ []) = tt
log-plain (base ∷ size ∷ offset ∷ []) = tt
log-plain (base ∷ size ∷ offset ∷ mapping ∷ []) =
    every-then IsPlain _ (λ b. every-then IsPlain _ (λ s. every-then IsPlain _ (λ o. every-then IsPlain _ (λ h. tt) (handle mapping)) (u64 offset)) (u64 size)) (u64 base)
log-plain (base ∷ size ∷ offset ∷ mapping ∷ more ∷ _) = tt

addresses-plain : (args : List (List ℕ)) → Plain (set_vring_addr args)
addresses-plain [] = tt
addresses-plain (index ∷ []) = tt
addresses-plain (index ∷ flags ∷ []) = tt
addresses-plain (index ∷ flags ∷ descriptor ∷ []) = tt
addresses-plain (index ∷ flags ∷ descriptor ∷ used ∷ []) = tt
addresses-plain (index ∷ flags ∷ descriptor ∷ used ∷ available ∷ args) =
    every-then IsPlain _ (λ i. every-then IsPlain _ (λ f. every-then IsPlain _ (λ d. every-then IsPlain _ (λ u. every-then IsPlain _ (λ a.
    every-then IsPlain _ (λ l. tt) (optional u64 args)) (u64 available)) (u64 used)) (u64 descriptor)) (u32 flags)) (u64 index)

get-area-plain : (args : List (List ℕ)) → Plain (get_inflight_fd args)
get-area-plain [] = tt
get-area-plain (a ∷ []) = tt
get-area-plain (a ∷ b ∷ []) = tt
get-area-plain (a ∷ b ∷ c ∷ []) = tt
get-area-plain (a ∷ b ∷ c ∷ d ∷ []) = every-map IsPlain GetInflightFd (λ x. tt) (area a b c d)
get-area-plain (a ∷ b ∷ c ∷ d ∷ e ∷ _) = tt

set-area-plain : (args : List (List ℕ)) → Plain (set_inflight_fd args)
set-area-plain [] = tt
set-area-plain (a ∷ []) = tt
set-area-plain (a ∷ b ∷ []) = tt
set-area-plain (a ∷ b ∷ c ∷ []) = tt
set-area-plain (a ∷ b ∷ c ∷ d ∷ []) = tt
set-area-plain (a ∷ b ∷ c ∷ d ∷ e ∷ []) = every-then IsPlain (λ x. option_map (SetInflightFd x) (handle e)) (λ x. every-map IsPlain (SetInflightFd x) (λ h. tt) (handle e)) (area a b c d)
set-area-plain (a ∷ b ∷ c ∷ d ∷ e ∷ f ∷ _) = tt

add-plain : (args : List (List ℕ)) → Plain (add_mem_region args)
add-plain args = every-map IsPlain AddMemRegion (λ r. tt) (only_region args)

remove-plain : (args : List (List ℕ)) → Plain (remove_mem_region args)
remove-plain args = every-map IsPlain RemoveMemRegion (λ r. tt) (only_region args)

table-plain : (args : List (List ℕ)) → Plain (set_mem_table args)
table-plain args = every-map IsPlain SetMemTable (λ rs. tt) (regions args)

-- a number that has no bit but the third has not the second
unmasked : (n : ℕ) → bit_and n 8 ≡ n → has_bit n 2 ≡ false
unmasked n is = subst (λ m. has_bit m 2 ≡ false) is (grind (arith, bit_at_and n 8 2))

flags-plain : (args : List (List ℕ)) → Plain (one header_flags SetHdrFlags args)
flags-plain [] = tt
flags-plain (word ∷ []) = go (header_flags word) (every-then (λ n. has_bit n 2 ≡ false) (within 8) masked (u32 word))
  where
    masked : (n : ℕ) → Every (λ n. has_bit n 2 ≡ false) (within 8 n)
    masked n = by (bit_and n 8 == n) refl
      where
        by : (test : Bool) → (bit_and n 8 == n) ≡ test → Every (λ n. has_bit n 2 ≡ false) (if test then Some n else None)
        by true is = unmasked n (eqb-true (bit_and n 8) n is)
        by false is = tt

    go : (o : Option ℕ) → Every (λ n. has_bit n 2 ≡ false) o → Plain (option_map SetHdrFlags o)
    go None is = tt
    go (Some n) is = is
flags-plain (word ∷ more ∷ _) = tt

-- ---- all calls

abbrev AllPlain : List (List ℕ × (List (List ℕ) → Option Call)) → Type 0
AllPlain [] = ⊤
AllPlain (row ∷ rows) = ((args : List (List ℕ)) → Plain (row.1 args)) × AllPlain rows

calls-plain : AllPlain calls
calls-plain = (
  bare-plain _ tt,
  (
    bare-plain _ tt,
    (
      bare-plain _ tt,
      (
        bare-plain _ tt,
        (
          bare-plain _ tt,
          (
            bare-plain _ tt,
            (
              bare-plain _ tt,
              (
                bare-plain _ tt,
                (
                  bare-plain _ tt,
                  (
                    bare-plain _ tt,
                    (
                      bare-plain _ tt,
                      (
                        bare-plain _ tt,
                        (
                          one-plain _ _ (λ a. tt),
                          (
                            one-plain _ _ (λ a. tt),
                            (
                              one-plain _ _ (λ a. tt),
                              (
                                one-plain _ _ (λ a. tt),
                                (
                                  one-plain _ _ (λ a. tt),
                                  (
                                    one-plain _ _ (λ a. tt),
                                    (
                                      one-plain _ _ (λ a. tt),
                                      (
                                        one-plain _ _ (λ a. tt),
                                        (
                                          flags-plain,
                                          (
                                            two-plain u64 u16 SetVringNum (λ a b. tt),
                                            (
                                              two-plain u64 u16 SetVringBase (λ a b. tt),
                                              (
                                                two-plain u64 u32 SetVringBase (λ a b. tt),
                                                (
                                                  two-plain u64 handle (λ i h. SetVringCall i (Some h)) (λ a b. tt),
                                                  (
                                                    two-plain u64 handle (λ i h. SetVringKick i (Some h)) (λ a b. tt),
                                                    (
                                                      two-plain u64 handle (λ i h. SetVringErr i (Some h)) (λ a b. tt),
                                                      (
                                                        two-plain u64 enabled SetVringEnable (λ a b. tt),
                                                        (
                                                          log-plain,
                                                          (
                                                            addresses-plain,
                                                            (
                                                              get-area-plain,
                                                              (
                                                                set-area-plain,
                                                                (
                                                                  add-plain,
                                                                  (
                                                                    remove-plain,
                                                                    (
                                                                      three-plain direction phase handle (λ d p h. SetDeviceStateFd (record { direction = d; phase = p }) h) (λ a b d. tt),
                                                                      (
                                                                        table-plain,
                                                                        (three-plain u32 u32 config_flags (λ offset size flags. GetConfig offset size flags (buffer size)) (λ a b d. tt), (three-plain u32 config_flags byte_string SetConfig (λ a b d. tt), tt)),
                                                                      ),
                                                                    ),
                                                                  ),
                                                                ),
                                                              ),
                                                            ),
                                                          ),
                                                        ),
                                                      ),
                                                    ),
                                                  ),
                                                ),
                                              ),
                                            ),
                                          ),
                                        ),
                                      ),
                                    ),
                                  ),
                                ),
                              ),
                            ),
                          ),
                        ),
                      ),
                    ),
                  ),
                ),
              ),
            ),
          ),
        ),
      ),
    ),
  ),
)

named-plain : (rows : List (List ℕ × (List (List ℕ) → Option Call))) → AllPlain rows → (name : List ℕ) (args : List (List ℕ)) → Plain (named rows name >>= λ call. call args)
named-plain [] all name args = tt
named-plain (row ∷ rows) all name args = by (bytes_eq name row.0) (named-plain rows all.1 name args)
  where
    by : (test : Bool) → Plain (named rows name >>= λ call. call args) → Plain ((if test then Some row.1 else named rows name) >>= λ call. call args)
    by true later = all.0 args
    by false later = later

asked-plain : (asked : List (List ℕ)) → Plain (call_named asked)
asked-plain [] = tt
asked-plain (name ∷ args) = named-plain calls calls-plain name args

-- the call that a line asks for
pub line-plain : (line : List ℕ) (call : Call) → call_in line ≡ Some call → IsPlain call
line-plain line call is = subst Plain is (every-if IsPlain (is_utf8 line) (call_named (words line)) None (asked-plain (words line)) tt)
