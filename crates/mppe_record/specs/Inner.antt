-- What only private functions promise.
use Rattle.std.specs.Prelude.{List, ℕ, drop, get_or}
use Rattle.rc4.specs.declared.Rc4.{Rc4}
use Rattle.rc4.specs.Cipher.{box}

-- RC4's state in octets: both indices, and the cells
unfoldable pub state_in : List ℕ → Rc4
state_in octets = box (drop 2 octets) (get_or octets 0 0) (get_or octets 1 0)
