-- A sync picks one of the images that a crash might have left, for good.
use Rattle.std.proofs.Common.{◌⊎◌, inl, inr, ⊎_elim, subst, sym}
use Rattle.disk_model.specs.View.{View, EachImage, Stays, IsSynced}

-- Each image was one of two. Once it is synced, all that a crash may leave is the one, or all is the other.
pub one_picked : {I : Type 0} {v w : View I} (P Q : I → Type 0) → Stays v w → IsSynced w → EachImage v (λ c. P c ⊎ Q c) → w.honest
    → EachImage w P ⊎ EachImage w Q
one_picked {w = w} P Q stays synced each honest =
    ⊎_elim (λ p. inl (λ c now. subst P (sym (synced c now)) p)) (λ q. inr (λ c now. subst Q (sym (synced c now)) q))
    (each w.seen (stays.crash w.seen (w.seen_may_stay honest)))
