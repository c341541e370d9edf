-- Octets of which a writer has taken a prefix.
use Rattle.std.proofs.Common.{◌≡◌, ℕ, ◌+◌, List, Option, None, Some, take, drop, refl, ap, subst, ◌∙◌}
use Rattle.std.proofs.KnownBytes.{Appends-nil, Appends-trans}
use Rattle.std.proofs.Math.Seq.{take-add}
use Rattle.std.proofs.lemmas.List.{drop-drop}
use Rattle.std.specs.Io.KnownBytes.{Keeps, Appends}

Appends-kept : (a b c : Option (List ℕ)) (xs : List ℕ) → Appends a b xs → Keeps b c → Appends a c xs
Appends-kept None b c xs p q = tt
Appends-kept (Some l) None c xs p q = absurd p
Appends-kept (Some l) (Some m) None xs p q = absurd q
Appends-kept (Some l) (Some m) (Some n) xs p q = q ∙ p

-- the writer's octets, known before and after, have grown by a prefix of these, and this is the rest
pub record HasPrefix (before after : Option (List ℕ)) (octets rest : List ℕ) : Type 0 where
  pub count : ℕ
  pub rest_is : rest ≡ drop count octets
  pub appended : Appends before after (take count octets)

pub prefix_start : (known : Option (List ℕ)) (octets : List ℕ) → HasPrefix known known octets octets
prefix_start known octets = record { count = 0; rest_is = refl; appended = Appends-nil known }

pub prefix_more : (before between after : Option (List ℕ)) (octets rest : List ℕ) (n : ℕ) → HasPrefix before between octets rest → Appends between after (take n rest)
    → HasPrefix before after octets (drop n rest)
prefix_more before between after octets rest n had more = record {
  count = had.count + n;
  rest_is = ap (drop n) had.rest_is ∙ drop-drop n had.count octets;
  appended = rw take-add (Appends-trans before between after (take had.count octets) (take n (drop had.count octets)) had.appended
      (subst (λ (k : List ℕ). Appends between after (take n k)) had.rest_is more));
}

pub prefix_kept : (before between after : Option (List ℕ)) (octets rest : List ℕ) → HasPrefix before between octets rest → Keeps between after → HasPrefix before after octets rest
prefix_kept before between after octets rest had kept = record {
  count = had.count;
  rest_is = had.rest_is;
  appended = Appends-kept before between after (take had.count octets) had.appended kept;
}
