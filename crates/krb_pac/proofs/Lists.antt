-- What holds of all elements of a list.
use Rattle.std.proofs.Common.{List, [], ◌∷◌, ◌++◌}
use Rattle.krb_pac.specs.Written.{AllOf}

pub AllOf-push : {A : Type 0} (P : A → Type 0) (vs : List A) (v : A) → AllOf P vs → P v → AllOf P (vs ++ v ∷ [])
AllOf-push P [] v x y = (y, tt)
AllOf-push P (w ∷ vs) v x y = (x.0, AllOf-push P vs v x.1 y)

pub AllOf-prefix : {A : Type 0} (P : A → Type 0) (vs ws : List A) → AllOf P (vs ++ ws) → AllOf P vs
AllOf-prefix P [] ws x = tt
AllOf-prefix P (v ∷ vs) ws x = (x.0, AllOf-prefix P vs ws x.1)

pub AllOf-at : {A : Type 0} (P : A → Type 0) (vs : List A) (v : A) (ws : List A) → AllOf P (vs ++ v ∷ ws) → P v
AllOf-at P [] v ws x = x.0
AllOf-at P (w ∷ vs) v ws x = AllOf-at P vs v ws x.1
