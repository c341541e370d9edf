-- The kvnos of one more key.
use Rattle.std.proofs.Common.{ap, inl, inr, refl, ℕ, List, [], ◌∷◌, ◌++◌}
use Rattle.krb_accept_rules.specs.Keys.{IsOfServerAndType}
use Rattle.krb_accept_rules.specs.declared.fields.RequestFields.{RequestFields}
use Rattle.krb_accept_rules.specs.declared.key.ServiceKey.{ServiceKey}
use Rattle.krb_accept_report.specs.Requests.{AddsKvno, AreKvnos}

-- it is one that is sought
pub more : (r : RequestFields) (keys : List ServiceKey) (k : ServiceKey) (kvnos : List ℕ) → AreKvnos r keys kvnos → IsOfServerAndType r k
    → AreKvnos r (keys ++ k ∷ []) (kvnos ++ k.kvno ∷ [])
more r [] k kvnos are is = inl (is, ([], rw are refl, refl))
more r (x ∷ keys) k kvnos (inl (first, (rest, e, are))) is = inl (first, (rest ++ k.kvno ∷ [], ap (λ l. l ++ k.kvno ∷ []) e, more r keys k rest are is))
more r (x ∷ keys) k kvnos (inr (not, are)) is = inr (not, more r keys k kvnos are is)

-- it is none
pub no_more : (r : RequestFields) (keys : List ServiceKey) (k : ServiceKey) (kvnos : List ℕ) → AreKvnos r keys kvnos → (IsOfServerAndType r k → ⊥)
    → AreKvnos r (keys ++ k ∷ []) kvnos
no_more r [] k kvnos are not = inr (not, are)
no_more r (x ∷ keys) k kvnos (inl (first, (rest, e, are))) not = inl (first, (rest, e, no_more r keys k rest are not))
no_more r (x ∷ keys) k kvnos (inr (other, are)) not = inr (other, no_more r keys k kvnos are not)

-- one more
pub step : (r : RequestFields) (keys : List ServiceKey) (k : ServiceKey) (before after : List ℕ) → AreKvnos r keys before → AddsKvno r k before after
    → AreKvnos r (keys ++ k ∷ []) after
step r keys k before after are (inl (is, e)) = rw e (more r keys k before are is)
step r keys k before after are (inr (not, e)) = rw e (no_more r keys k before are not)
