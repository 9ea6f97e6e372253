-- Laws that follow from the definitions alone: both ends have one base key, a base key is used whole, and the lengths.
use Rattle.std.specs.Prelude.{◌≡◌, refl, List, ℕ, length}
use Rattle.std.proofs.Common.{◌∙◌, append-nil, arith, length-append, take_all}
use Rattle.sha256.specs.Sha256.{sha256}
use Rattle.sha256.specs.Hmac.{hmac}
use Rattle.mppe_keys.specs.declared.Strength.{Strength}
use Rattle.mppe_keys.specs.declared.Role.{Role}
use Rattle.mppe_keys.specs.declared.Role.TheVariants.{Client, Server}
use Rattle.mppe_keys.specs.declared.Direction.TheVariants.{Send, Receive}
use Rattle.mppe_keys.specs.Keys.{start_key}
use Rattle.sstp.specs.Binding.{base_key, fitted, binding_key}

-- what one end sends with, the other receives with
pub ends_agree : (a b : List ℕ) → base_key Client a b ≡ base_key Server b a
ends_agree a b = refl

-- so it is with the start keys of a master key
pub start_keys_agree : (s : Strength) (master : List ℕ)
    → base_key Client (start_key s Client Send master) (start_key s Client Receive master)
    ≡ base_key Server (start_key s Server Send master) (start_key s Server Receive master)
unfolding start_key
start_keys_agree s master = refl

-- a base key has 32 octets ..
pub base_key_length : (role : Role) (send receive : List ℕ) → length send ≡ 16 → length receive ≡ 16 → length (base_key role send receive) ≡ 32
base_key_length Client send receive hs hr = length-append send receive ∙ omega arith
base_key_length Server send receive hs hr = length-append receive send ∙ omega arith

-- .. so it is neither cut nor padded
pub base_fits : (role : Role) (send receive : List ℕ) → length send ≡ 16 → length receive ≡ 16
    → fitted (base_key role send receive) ≡ base_key role send receive
unfolding fitted
base_fits role send receive hs hr =
    let l = base_key_length role send receive hs hr in
    rw (l, take_all 32 (base_key role send receive) (omega arith), append-nil)

-- a binding key has 32
pub binding_key_length : (material : List ℕ) → length (binding_key material) ≡ 32
unfolding binding_key hmac sha256
binding_key_length material = refl
