-- Lines and the statements that remain. Over the places of a tree, the lines of each of its lists stand from some
-- position on (`Stands`), and what remains behind them is what follows the list (`Laid`). So by recursion on the tree
-- each of its lines says what remains at the positions that it leads to.
use Rattle.std.proofs.Common.{◌≡◌, ℕ, zero, suc, ◌+◌, List, [], ◌∷◌, ◌++◌, length, true, false, Some}
use Rattle.std.proofs.Common.{slice_get, refl, ap, ◌∙◌, sym, subst, arith, length-append, append_assoc, get_or}
use Rattle.std.proofs.Math.Seq.{get_or-append_seam}
use Rattle.std.proofs.lemmas.List.{get_or_past}
use Rattle.rank_language.specs.Block.{Block, done, plain, if_only, if_else, loop, ◌then◌, Line, else_line}
use Rattle.rank_language.specs.Block.{end_line, back_line, size, lines_at, places, remaining, tested, taken, Leads}

-- nothing after a list leaves the list
then_done : (b : Block) → b then done ≡ b
then_done done = refl
then_done (plain s r) = ap (plain s) (then_done r)
then_done (if_only e y r) = ap (if_only e y) (then_done r)
then_done (if_else e y o r) = ap (if_else e y o) (then_done r)
then_done (loop e y r) = ap (loop e y) (then_done r)

-- these stand from position n on
abbrev Stands : (ℕ → Block) → ℕ → List Block → Type 0
Stands at n [] = Unit {0}
Stands at n (b ∷ bs) = (at n ≡ b) × Stands at (n + 1) bs

-- the same places from an equal position on
moved : (at : ℕ → Block) (m n : ℕ) (bs : List Block) → m ≡ n → Stands at m bs → Stands at n bs
moved at m n bs q h = subst (λ k. Stands at k bs) q h

-- the first of the places
stands_front : (at : ℕ → Block) (n : ℕ) (xs ys : List Block) → Stands at n (xs ++ ys) → Stands at n xs
stands_front at n [] ys h = tt
stands_front at n (x ∷ xs) ys h = (h.0, stands_front at (n + 1) xs ys h.1)

-- the last of the places, behind the first
stands_back : (at : ℕ → Block) (n : ℕ) (xs ys : List Block) → Stands at n (xs ++ ys) → Stands at (n + length xs) ys
stands_back at n [] ys h = moved at n (n + 0) ys (omega arith) h
stands_back at n (x ∷ xs) ys h = moved at (n + 1 + length xs) (n + length (x ∷ xs)) ys (omega arith) (stands_back at (n + 1) xs ys h.1)

-- a list has as many places as lines
pub length-places : (b k : Block) → length (places b k) ≡ size b
length-places done k = refl
length-places (plain s r) k = omega (arith, length-places r k)
length-places (if_only e y r) k =
    omega (arith, length-append (places y (r then k)) ((r then k) ∷ places r k), length-places y (r then k), length-places r k)
length-places (if_else e y o r) k =
    omega (
      arith,
      length-append (places y (r then k)) ((r then k) ∷ (places o (r then k) ++ (r then k) ∷ places r k)),
      length-append (places o (r then k)) ((r then k) ∷ places r k),
      length-places y (r then k),
      length-places o (r then k),
      length-places r k,
    )
length-places (loop e y r) k =
    omega (arith, length-append (places y (loop e y (r then k))) (loop e y (r then k) ∷ places r k), length-places y (loop e y (r then k)), length-places r k)

-- a list has as many lines as its size says
pub length-lines_at : (n : ℕ) (b : Block) → length (lines_at n b) ≡ size b
length-lines_at n done = refl
length-lines_at n (plain s r) = omega (arith, length-lines_at (n + 1) r)
length-lines_at n (if_only e y r) =
    omega (
      arith,
      length-append (lines_at (n + 1) y) (end_line ∷ lines_at (n + 1 + size y + 1) r),
      length-lines_at (n + 1) y,
      length-lines_at (n + 1 + size y + 1) r,
    )
length-lines_at n (if_else e y o r) =
    let m = n + 1 + size y in
    let q = m + 1 + size o in
    omega (
      arith,
      length-append (lines_at (n + 1) y) (else_line (q + 1) ∷ (lines_at (m + 1) o ++ end_line ∷ lines_at (q + 1) r)),
      length-append (lines_at (m + 1) o) (end_line ∷ lines_at (q + 1) r),
      length-lines_at (n + 1) y,
      length-lines_at (m + 1) o,
      length-lines_at (q + 1) r,
    )
length-lines_at n (loop e y r) =
    omega (
      arith,
      length-append (lines_at (n + 1) y) (back_line n ∷ lines_at (n + 1 + size y + 1) r),
      length-lines_at (n + 1) y,
      length-lines_at (n + 1 + size y + 1) r,
    )

-- What the lines of a list stand for from position n on, and what remains behind them.
record Laid (at : ℕ → Block) (n : ℕ) (b k : Block) : Type 0 where
  each : Stands at n (places b k)
  after : at (n + size b) ≡ k

-- what remains where a list begins
here : (at : ℕ → Block) (n : ℕ) (b k : Block) → Laid at n b k → at n ≡ b then k
here at n done k h = ap at (let q : n ≡ n + 0 = omega arith in q) ∙ h.after
here at n (plain s r) k h = h.each.0
here at n (if_only e y r) k h = h.each.0
here at n (if_else e y o r) k h = h.each.0
here at n (loop e y r) k h = h.each.0

-- A list inside a statement, the line behind it, and what comes behind that.
record Parted (at : ℕ → Block) (n : ℕ) (b : Block) (j : Block) (bs : List Block) : Type 0 where
  part : Laid at n b j
  behind : at (n + size b) ≡ j
  more : Stands at (n + size b + 1) bs

-- a list inside a statement stands in front of what is behind it
parted : (at : ℕ → Block) (n : ℕ) (b j : Block) (bs : List Block) → Stands at n (places b j ++ j ∷ bs) → Parted at n b j bs
parted at n b j bs h =
    let back = moved at (n + length (places b j)) (n + size b) (j ∷ bs) (ap (λ k. n + k) (length-places b j)) (stands_back at n (places b j) (j ∷ bs) h) in
    record { part = record { each = stands_front at n (places b j) (j ∷ bs) h; after = back.0 }; behind = back.0; more = back.1 }

-- each line leads where the places say
abbrev AllLead : (ℕ → Block) → ℕ → List Line → Type 0
AllLead at n [] = Unit {0}
AllLead at n (l ∷ ls) = Leads at n l × AllLead at (n + 1) ls

-- lines behind lines lead where the places say
lead_append : (at : ℕ → Block) (n m : ℕ) (xs ys : List Line) → n + length xs ≡ m → AllLead at n xs → AllLead at m ys → AllLead at n (xs ++ ys)
lead_append at n m [] ys q h k = subst (λ z. AllLead at z ys) (let e : m ≡ n = omega arith in e) k
lead_append at n m (x ∷ xs) ys q h k = (h.0, lead_append at (n + 1) m xs ys (omega arith) h.1 k)

-- the lines of a list lead where its places say
lead : (at : ℕ → Block) (n : ℕ) (b k : Block) → Laid at n b k → AllLead at n (lines_at n b)
lead at n done k h = tt
lead at n (plain s r) k h =
    let l : Laid at (n + 1) r k = record { each = h.each.1; after = ap at (omega arith) ∙ h.after } in
    (h.each.0 ∙ ap (plain s) (sym (here at (n + 1) r k l)), lead at (n + 1) r k l)
lead at n (if_only e y r) k h =
    let p = parted at (n + 1) y (r then k) (places r k) h.each.1 in
    let m = n + 1 + size y in
    let l : Laid at (m + 1) r k = record { each = p.more; after = ap at (omega arith) ∙ h.after } in
    let first = h.each.0 in
    let after = here at (m + 1) r k l in (
      (omega arith, ap tested first, here at (n + 1) y (r then k) p.part ∙ ap (taken true) (sym first), after ∙ ap (taken false) (sym first)),
      lead_append at (n + 1) m (lines_at (n + 1) y) (end_line ∷ lines_at (m + 1) r) (ap (λ z. n + 1 + z) (length-lines_at (n + 1) y))
          (lead at (n + 1) y (r then k) p.part) (p.behind ∙ sym after, lead at (m + 1) r k l),
    )
lead at n (if_else e y o r) k h =
    let m = n + 1 + size y in
    let q = m + 1 + size o in
    let p = parted at (n + 1) y (r then k) (places o (r then k) ++ (r then k) ∷ places r k) h.each.1 in
    let p' = parted at (m + 1) o (r then k) (places r k) p.more in
    let l : Laid at (q + 1) r k = record { each = p'.more; after = ap at (omega arith) ∙ h.after } in
    let first = h.each.0 in
    let after = here at (q + 1) r k l in (
      (
        omega arith,
        ap tested first,
        here at (n + 1) y (r then k) p.part ∙ ap (taken true) (sym first),
        here at (m + 1) o (r then k) p'.part ∙ ap (taken false) (sym first),
      ),
      lead_append at (n + 1) m (lines_at (n + 1) y) (else_line (q + 1) ∷ (lines_at (m + 1) o ++ end_line ∷ lines_at (q + 1) r))
          (ap (λ z. n + 1 + z) (length-lines_at (n + 1) y)) (lead at (n + 1) y (r then k) p.part) (
            (omega arith, p.behind ∙ sym after),
            lead_append at (m + 1) q (lines_at (m + 1) o) (end_line ∷ lines_at (q + 1) r) (ap (λ z. m + 1 + z) (length-lines_at (m + 1) o))
                (lead at (m + 1) o (r then k) p'.part) (p'.behind ∙ sym after, lead at (q + 1) r k l),
          ),
    )
lead at n (loop e y r) k h =
    let again = loop e y (r then k) in
    let p = parted at (n + 1) y again (places r k) h.each.1 in
    let m = n + 1 + size y in
    let l : Laid at (m + 1) r k = record { each = p.more; after = ap at (omega arith) ∙ h.after } in
    let first = h.each.0 in
    let after = here at (m + 1) r k l in (
      (omega arith, ap tested first, here at (n + 1) y again p.part ∙ ap (taken true) (sym first), after ∙ ap (taken false) (sym first)),
      lead_append at (n + 1) m (lines_at (n + 1) y) (back_line n ∷ lines_at (m + 1) r) (ap (λ z. n + 1 + z) (length-lines_at (n + 1) y))
          (lead at (n + 1) y again p.part) ((omega arith, p.behind ∙ sym first), lead at (m + 1) r k l),
    )

-- places stand where they are listed
stands_self : (all before bs : List Block) → all ≡ before ++ bs → Stands (λ p. get_or all p done) (length before) bs
stands_self all before [] q = tt
stands_self all before (b ∷ bs) q = (
  ap (λ z. get_or z (length before) done) q ∙ get_or-append_seam before b bs done,
  moved (λ p. get_or all p done) (length (before ++ b ∷ [])) (length before + 1) bs (length-append before (b ∷ []))
      (stands_self all (before ++ b ∷ []) bs (q ∙ sym (append_assoc before (b ∷ []) bs))),
)

-- a tree's lines stand from position 0 on, and nothing remains behind them
laid : (t : Block) → Laid (remaining t) 0 t done
laid t = record {
  each = stands_self (places t done) [] (places t done) refl;
  after = get_or_past (places t done) (0 + size t) done (omega (arith, length-places t done));
}

-- one of the lines leads where the places say
lead_at : (at : ℕ → Block) (n : ℕ) (ls : List Line) (p : ℕ) (l : Line) → AllLead at n ls → slice_get ls p ≡ Some l → Leads at (n + p) l
lead_at at n [] p l h q = cc
lead_at at n (x ∷ ls) zero l h q =
    let e : x ≡ l = cc in
    let m : n ≡ n + 0 = omega arith in
    subst (λ z. Leads at z l) m (subst (λ z. Leads at n z) e h.0)
lead_at at n (x ∷ ls) (suc p) l h q =
    let m : n + 1 + p ≡ n + suc p = omega arith in
    subst (λ z. Leads at z l) m (lead_at at (n + 1) ls p l h.1 q)

-- what a line of a tree says of the statements that remain
pub leads : (t : Block) (p : ℕ) (l : Line) → slice_get (lines_at 0 t) p ≡ Some l → Leads (remaining t) p l
leads t p l q =
    let m : 0 + p ≡ p = omega arith in
    subst (λ z. Leads (remaining t) z l) m (lead_at (remaining t) 0 (lines_at 0 t) p l (lead (remaining t) 0 t done (laid t)) q)

-- past the last line nothing remains
pub ends_there : (t : Block) → remaining t (size t) ≡ done
ends_there t = get_or_past (places t done) (size t) done (omega (arith, length-places t done))

-- at position 0 the whole tree remains
pub begins_there : (t : Block) → remaining t 0 ≡ t
begins_there t = here (remaining t) 0 t done (laid t) ∙ then_done t
