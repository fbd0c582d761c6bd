-- What the two calls of `land_program` leave, as the definition has it. Assumes nothing.
use mathlib.Core.Path.{◌≡◌, ap, ◌∙◌}
use mathlib.Core.Bool.{Bool}
use mathlib.Core.List.{List, [], ◌++◌, append-nil}
use Prim.Native.Nat.{ℕ, ◌+◌, ◌-◌, ◌≤◌}
use native.Mathlib.Nat.{zero-add, le_refl}
use native.Mathlib.Omega.{arith}
use lib.ListN.{length, take, drop, length-drop, drop_of_length-le}
use lib.Seq.{take_all, drop-drop}
use borrow.Author.Tests.{le-leb}
use borrow.Rule.Slice.PartMut.{put_mid}
use Rattle.basics.specs.Parts.{part, overlaid}
use Rattle.basics.proofs.Parts.{length_part}
use Rattle.device.specs.Media.{Applied, applied, programmed, postimage, any_changed}
use Rattle.device.specs.Answers.{Copied, copied}
use Rattle.device.proofs.Cells.{length-anded}
use Rattle.std.specs.Prelude.{Result}
use Rattle.session.specs.declared.Told.{Told}
use Rattle.session.specs.declared.Counters.{Counters}
use Rattle.session.specs.Replies.{Plan}
use Rattle.session.specs.Armed.{Armed, armed_on, program_lands, lands}
use Rattle.session.specs.Written.{planned, Landing}
use Rattle.session.proofs.Writing.{lands-le as all-le, program-lands}
use Rattle.session_program.specs.Program.{program_plan, program_landing}

-- no more lands than the length
pub lands-le : (a : Armed) (len unit : ℕ) → program_lands a len unit ≤ len
lands-le a len unit = rw (← program-lands a len unit) (all-le len 1 unit a)

-- what is armed, how much lands and the plan, as the code makes them
module _ (t : Told) (c : Counters) (offset len : ℕ) (a : Armed) (n : ℕ) (d : n ≡ lands len 1 t.geometry.program_size a) where
  pub less : n ≤ len
  less = rw d (all-le len 1 t.geometry.program_size a)

  module _ (p : Plan) (f : a ≡ armed_on t.armed c.operations) (e : p ≡ planned c a offset len n) where
    pub plan-is : p ≡ program_plan t c offset len
    unfolding program_plan
    plan-is =
        e ∙ ap (planned c a offset len) (d ∙ program-lands a len t.geometry.program_size)
        ∙ ap (λ (x : Armed). planned c x offset len (program_lands x len t.geometry.program_size)) f

    pub plan-le : p.landed ≤ len
    plan-le = rw e less

-- a slice's end, as the code lends it
pub lent-end : (xs : List ℕ) (start : ℕ) → take (length xs - start) (drop start xs) ≡ drop start xs
lent-end xs start = take_all (length xs - start) (drop start xs) (rw length-drop (le_refl (length xs - start)))

-- cells laid at the start of a lent end come back as cells laid at its place
laid : (copy : List ℕ) (start : ℕ) (cells : List ℕ)
    → put_mid start (length copy - start) copy (overlaid (drop start copy) 0 cells) ≡ overlaid copy start cells
unfolding overlaid
laid copy start cells =
    let e : drop (length copy - start) (drop start copy) ≡ [] = drop_of_length-le (drop start copy) {i = length copy - start} (rw length-drop (le_refl (length copy - start))) in
    ap (λ (l : List ℕ). take start copy ++ ((cells ++ drop (0 + length cells) (drop start copy)) ++ l)) e
    ∙ ap (λ (l : List ℕ). take start copy ++ l) (append-nil (cells ++ drop (0 + length cells) (drop start copy)))
    ∙ ap (λ (n : ℕ). take start copy ++ (cells ++ drop n (drop start copy))) (zero-add (length cells))
    ∙ ap (λ (l : List ℕ). take start copy ++ (cells ++ l)) (drop-drop (length cells) start copy)

-- where the part is there, what the write would leave is as long as the bytes
post-length : (media : List ℕ) (place : ℕ) (rest : List ℕ) → place + length rest ≤ length media → length (postimage media place rest) ≡ length rest
unfolding postimage
post-length media place rest h =
    rw (le-leb _ _ h) (length-anded (part media place (length rest)) rest (length_part media place (length rest) h) ∙ length_part media place (length rest) h)

-- what `postimage_of` left of the copy's lent end, said of the copy
copy-laid : (media copy rest end : List ℕ) (place : ℕ) (answer : Result ℕ ℕ) (room : place + length rest ≤ length media) → length copy ≡ length media
    → ◌≡◌ {A = Copied} (record { answer = answer; buffer = end }) (copied (drop place copy) (postimage media place rest))
    → put_mid place (length copy - place) copy end ≡ overlaid copy place (postimage media place rest)
copy-laid media copy rest end place answer room same e =
    let cells = postimage media place rest in
    let l : length cells ≡ length rest = post-length media place rest room in
    let fits : length cells ≤ length (drop place copy) = rw (l, length-drop) (omega arith) in
    let b : end ≡ overlaid (drop place copy) 0 cells = ap (λ (x : Copied). x.buffer) e ∙ simp (le-leb _ _ fits) in
    ap (put_mid place (length copy - place) copy) b ∙ laid copy place cells

module _ (offset landed : ℕ) (bytes media copy : List ℕ) (fits : landed ≤ length bytes) (room : offset + length bytes ≤ length media) (same : length copy ≡ length media) where
  rest-room : offset + landed + length (drop landed bytes) ≤ length media
  rest-room = rw length-drop (omega arith)

  pub landing : (end media' : List ℕ) (answer : Result ℕ ℕ) (changed : Bool)
      → ◌≡◌ {A = Copied} (record { answer = answer; buffer = end })
      (copied (take (length copy - (offset + landed)) (drop (offset + landed) copy)) (postimage media (offset + landed) (take (length bytes - landed) (drop landed bytes))))
      → ◌≡◌ {A = Applied} (record { media = media'; changed = changed }) (applied media (programmed media offset (take landed bytes)))
      → ◌≡◌ {A = Landing} (record { media = media'; copy = put_mid (offset + landed) (length copy - (offset + landed)) copy end; changed = changed })
      (program_landing offset landed bytes media copy)
  unfolding program_landing
  landing end media' answer changed e f =
      let e' : ◌≡◌ {A = Copied} (record { answer = answer; buffer = end }) (copied (drop (offset + landed) copy) (postimage media (offset + landed) (drop landed bytes)))
      = rw (lent-end copy (offset + landed), lent-end bytes landed) at e in
      let k = copy-laid media copy (drop landed bytes) end (offset + landed) answer rest-room same e' in
      let m : media' ≡ programmed media offset (take landed bytes) = ap (λ (x : Applied). x.media) f in
      let b : changed ≡ any_changed media (programmed media offset (take landed bytes)) = ap (λ (x : Applied). x.changed) f in
      λ i. record { media = m i; copy = k i; changed = b i }
