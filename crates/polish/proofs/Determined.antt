-- A frame has one answer, since a word has at most one codeword near; and two results that a contract allows for the same input are equal, lent bytes included.
-- Assumes nothing.
use Rattle.std.specs.Prelude.{Result, Ok}
use mathlib.Core.List.{List}
use mathlib.Core.Path.{◌≡◌, refl, sym, ap, ◌∙◌}
use Prim.Native.Nat.{ℕ}
use Rattle.refusal.proofs.Determined.{Determined, Leaves}
use Rattle.symbols.proofs.Unique.{unique}
use Rattle.polish.specs.Frame.{time_in, crc_of_body, word_of, mended_to}
use Rattle.polish.specs.Read.{Behind, none, wrong, right, Reads, size, fixed, behind}
use Rattle.refusal.specs.declared.Refusal.{Refusal}
use Rattle.polish.specs.declared.Time.{Time}
use Rattle.polish.proofs.read_frame.Reads as read_frame
use Rattle.polish.proofs.write_frame.Reads as write_frame

pub behind_determined : (body checks crc : ℕ) {r q : Result Time Refusal} → Behind body checks crc r → Behind body checks crc q → r ≡ q
behind_determined body checks crc (none f) (none g) = refl
behind_determined body checks crc (none f) (wrong d n e) = absurd (f d n)
behind_determined body checks crc (none f) (right d n e) = absurd (f d n)
behind_determined body checks crc (wrong c m f) (none g) = absurd (g c m)
behind_determined body checks crc (wrong c m f) (wrong d n e) = refl
behind_determined body checks crc (wrong c m f) (right d n e) =
    absurd (f (ap (λ (l : List ℕ). crc_of_body (mended_to l body)) (unique (word_of body checks) c d m n) ∙ e))
behind_determined body checks crc (right c m f) (none g) = absurd (g c m)
behind_determined body checks crc (right c m f) (wrong d n e) =
    absurd (e (ap (λ (l : List ℕ). crc_of_body (mended_to l body)) (unique (word_of body checks) d c n m) ∙ f))
behind_determined body checks crc (right c m f) (right d n e) =
    ap (λ (l : List ℕ). Ok (time_in (mended_to l body))) (unique (word_of body checks) c d m n)

pub reads_determined : (frame : List ℕ) {r q : Result Time Refusal} → Reads frame r → Reads frame q → r ≡ q
reads_determined frame (size s) (size t) = refl
reads_determined frame (size s) (fixed l n) = absurd (s l)
reads_determined frame (size s) (behind l f b) = absurd (s l)
reads_determined frame (fixed k m) (size t) = absurd (t k)
reads_determined frame (fixed k m) (fixed l n) = refl
reads_determined frame (fixed k m) (behind l f b) = absurd (m f)
reads_determined frame (behind k g a) (size t) = absurd (t k)
reads_determined frame (behind k g a) (fixed l n) = absurd (n g)
reads_determined frame (behind k g a) (behind l f b) = behind_determined _ _ _ a b

pub read_frame_determined : Determined read_frame.Post
read_frame_determined κs a x y s t p q = reads_determined _ p q

pub write_frame_determined : Determined write_frame.Post
write_frame_determined κs a x y s t p q = p.0 ∙ sym q.0

pub write_frame_leaves : Leaves write_frame.Post (λ κs s. s.1.0.now)
write_frame_leaves κs a x y s t p q = p.1 ∙ sym q.1
