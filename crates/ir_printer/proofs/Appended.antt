-- Texts that are appended one after another.
use Rattle.std.proofs.Common.{◌≡◌, ℕ, List, ◌++◌, append_assoc}

pub appended_six : (a b c d e old u v w x y z : List ℕ)
    → a ≡ old ++ u
    → b ≡ a ++ v
    → c ≡ b ++ w
    → d ≡ c ++ x
    → e ≡ d ++ y
    → e ++ z ≡ old ++ (u ++ (v ++ (w ++ (x ++ (y ++ z)))))
appended_six a b c d e old u v w x y z first second third fourth fifth =
    rw (fifth, fourth, third, second, first) (simp append_assoc)
