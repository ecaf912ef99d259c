-- A call through a port that was made for it: what is so of the port's wire and events is so of the body's.
use Rattle.std.proofs.Common.{◌≡◌, sym, subst}

pub through : {W E : Type 0} (So : (old : W) (told : E) (new : W) (tells : E) → Type 0) (x y w z : W) (e f g h : E) → y ≡ x → f ≡ e → z ≡ w → h ≡ g
    → So y f w g → So x e z h
through So x y w z e f g h wire events new tells so =
    subst (λ old. So old e z h) wire
    (subst (λ told. So y told z h) events (subst (λ now. So y f now h) (sym new) (subst (λ after. So y f w after) (sym tells) so)))
