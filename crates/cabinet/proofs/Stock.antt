-- The drawers of a cabinet as lists, and what a change of one drawer leaves of them.
use Rattle.std.proofs.Common.{◌≡◌, ℕ, ◌*◌, ◌<◌, List, [], ◌∷◌, All, map, length, get_or, set, replicate, vec_items, sym, refl, ap, ap₂, ◌∙◌, ⊎_elim, arith, length-set}
use lib.Seq.{map-set, map-set_same}
use Rattle.std.proofs.lemmas.List.{get_or-map, get_or-set_same, get_or-set_other, get_or-replicate, length-map, length-replicate}
use Rattle.std.proofs.lemmas.List.Elements.{All-head, All-tail}
use Rattle.std.proofs.lemmas.Bool.{cases_eq}
use Rattle.tray.specs.declared.trays.Shape.{Shape}
use Rattle.cabinet.specs.declared.drawers.Drawer.{Drawer}
use Rattle.cabinet.specs.Drawers.{held, counts, IsFresh, Stocked}

-- what all elements of a list show alike
map_same : {X Y : Type 0} (P : X → Type 0) (f : X → Y) (y : Y) → ((x : X) → P x → f x ≡ y) → (xs : List X) → All P xs → map f xs ≡ replicate (length xs) y
map_same P f y h [] all = refl
map_same P f y h (x ∷ xs) all = ap₂ (λ v vs. v ∷ vs) (h x (All-head P x xs all)) (map_same P f y h xs (All-tail P x xs all))

-- the drawer d of column c
module _ (drawers : List Drawer) (c : ℕ) (h : c < length drawers) (d : Drawer) (here : d ≡ get_or drawers c d) where
  pub its_bytes : get_or (held drawers) c [] ≡ vec_items d.bytes
  its_bytes = get_or-map (λ x. vec_items x.bytes) drawers c d [] h ∙ ap (λ x. vec_items x.bytes) (sym here)

  pub its_reads : get_or (counts drawers) c 0 ≡ d.reads
  its_reads = get_or-map (λ x. x.reads) drawers c d 0 h ∙ ap (λ x. x.reads) (sym here)

  -- and its place taken by the drawer e
  module _ (e : Drawer) where
    pub held_set : held (set drawers c e) ≡ set (held drawers) c (vec_items e.bytes)
    held_set = map-set (λ x. vec_items x.bytes) drawers c e

    pub counts_set : counts (set drawers c e) ≡ set (counts drawers) c e.reads
    counts_set = map-set (λ x. x.reads) drawers c e

    pub held_same : vec_items e.bytes ≡ vec_items d.bytes → held (set drawers c e) ≡ held drawers
    held_same q = map-set_same (λ x. vec_items x.bytes) drawers c e d (q ∙ ap (λ x. vec_items x.bytes) here)

    pub counts_same : e.reads ≡ d.reads → counts (set drawers c e) ≡ counts drawers
    counts_same q = map-set_same (λ x. x.reads) drawers c e d (q ∙ ap (λ x. x.reads) here)

    pub still_stocked : (shape : Shape) → Stocked shape drawers → length (vec_items e.bytes) ≡ length (vec_items d.bytes) → Stocked shape (set drawers c e)
    still_stocked shape stocked q = (
      length-set drawers c e ∙ stocked.0,
      λ j k.
          rw held_set
          (⊎_elim
          (λ p. rw p (ap length (get_or-set_same (held drawers) c (vec_items e.bytes) [] (let m = length-map drawers (λ x. vec_items x.bytes) in omega arith)) ∙ (q ∙ (sym (ap length its_bytes) ∙ (let k' : c < shape.columns = rw p at k in stocked.1 c k')))))
          (λ p. ap length (get_or-set_other (held drawers) c j (vec_items e.bytes) [] p) ∙ stocked.1 j k)
          (cases_eq j c)),
    )

-- Fresh drawers, one for each column: zeros in all, and none was read.
module _ (columns rows size : ℕ) (drawers : List Drawer) (many : length drawers ≡ columns) (fresh : All (IsFresh (rows * size)) drawers) where
  pub held_fresh : held drawers ≡ replicate columns (replicate (rows * size) 0)
  held_fresh = map_same (IsFresh (rows * size)) (λ x. vec_items x.bytes) _ (λ d f. f.bytes) drawers fresh ∙ ap (λ n. replicate n (replicate (rows * size) 0)) many

  pub counts_fresh : counts drawers ≡ replicate columns 0
  counts_fresh = map_same (IsFresh (rows * size)) (λ x. x.reads) 0 (λ d f. f.reads) drawers fresh ∙ ap (λ n. replicate n 0) many

  pub stocked_fresh : Stocked (record { columns = columns; rows = rows; size = size }) drawers
  stocked_fresh = (many, λ c h. rw held_fresh (ap length (get_or-replicate columns c (replicate (rows * size) 0) [] h) ∙ length-replicate (rows * size) 0))
