-- What a call leaves in a lent buffer, and a link record of its parts.
use Rattle.std.specs.Prelude.{Bool, true, false, List, ℕ, length, take, replicate}
use Rattle.octets.specs.Octets.{written}
use Rattle.rc4.specs.Cipher.{unkeyed}
use Rattle.mppe_keys.specs.declared.Strength.{Strength}
use Rattle.mppe_keys.specs.declared.Strength.TheVariants.{Bits40, Bits128}
use Rattle.mppe_keys.specs.Keys.{mode_if}
use Rattle.mppe.specs.declared.Link.{Link}

-- octets in its front, as many as it has room for
unfoldable pub copied : List ℕ → List ℕ → List ℕ
copied octets out = written (take (length out) octets) out

-- 40 bits, or 128
abbrev pub strength_of : Bool → Strength
strength_of true = Bits40
strength_of false = Bits128

-- a record of its parts, each key cut to 16 places or with zeros behind it; its box is 0 to 255 in order, and it does not wait
unfoldable pub link_at : (bits40 stateful : Bool) (start session : List ℕ) (count : ℕ) → Link
link_at bits40 stateful start session count =
    record {
      strength = strength_of bits40;
      mode = mode_if stateful;
      start = copied start (replicate 16 0);
      session = copied session (replicate 16 0);
      count = count;
      state = unkeyed;
      waiting = false;
    }
