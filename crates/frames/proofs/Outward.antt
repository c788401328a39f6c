-- The bytes of frames that go out read back as those frames.
use Rattle.std.proofs.Common.{◌≡◌, ℕ, ◌+◌, ◌<◌, ◌≤◌, List, [], ◌∷◌, ◌++◌, length, take, drop, Some, sym, refl, ap, ◌∙◌, arith}
use Rattle.std.proofs.lemmas.List.{length-append, append_cancel_left, take_at}
use Rattle.std.proofs.lemmas.Bool.{le-leb}
use Rattle.frames.specs.Events.{number, number_at, high, low}
use Rattle.frames.specs.Frames.{Frame, ToClient, ToOrigin, CloseClient, Open, Close, NotTaken, GoodFrame, frame_bytes, frame_of, once_there, out_bytes}
use Rattle.frames.specs.Laws.{FramesBack, OneReading}
use Rattle.frames.proofs.Back.{split}

there : (n : ℕ) (bs : List ℕ) (f : Frame) → n ≤ length bs → once_there n bs f ≡ Some (f, n)
there n bs f h = rw (le-leb n (length bs) h)

client_back : (c : ℕ) (bs rest : List ℕ) → frame_of (frame_bytes (ToClient c bs) ++ rest) ≡ Some (ToClient c bs, length (frame_bytes (ToClient c bs)))
client_back c bs rest =
    let all : List ℕ = frame_bytes (ToClient c bs) ++ rest in
    let who = split c in
    let size = split (length bs) in
    let body = take_at bs rest (number (high (length bs)) (low (length bs))) (sym size) in
    let long : 5 + length bs ≡ length (frame_bytes (ToClient c bs)) = omega arith in
    let fits : 5 + number_at all 3 ≤ length all = omega (arith, size, length-append bs rest) in
    there (5 + number_at all 3) all (ToClient (number_at all 1) (take (number_at all 3) (drop 5 all))) fits ∙ (rw (body, who, size, long))

origin_back : (i : ℕ) (bs rest : List ℕ) → frame_of (frame_bytes (ToOrigin i bs) ++ rest) ≡ Some (ToOrigin i bs, length (frame_bytes (ToOrigin i bs)))
origin_back i bs rest =
    let all : List ℕ = frame_bytes (ToOrigin i bs) ++ rest in
    let size = split (length bs) in
    let body = take_at bs rest (number (high (length bs)) (low (length bs))) (sym size) in
    let long : 4 + length bs ≡ length (frame_bytes (ToOrigin i bs)) = omega arith in
    let fits : 4 + number_at all 2 ≤ length all = omega (arith, size, length-append bs rest) in
    there (4 + number_at all 2) all (ToOrigin i (take (number_at all 2) (drop 4 all))) fits ∙ (rw (body, size, long))

pub frames_back : FramesBack
frames_back (ToClient c bs) good rest = client_back c bs rest
frames_back (ToOrigin i bs) good rest = origin_back i bs rest
frames_back (CloseClient c) good rest =
    there 3 (frame_bytes (CloseClient c) ++ rest) (CloseClient (number (high c) (low c))) (omega arith) ∙ (rw (split c))
frames_back (Open i) good rest = there 2 (frame_bytes (Open i) ++ rest) (Open i) (omega arith)
frames_back (Close i) good rest = there 2 (frame_bytes (Close i) ++ rest) (Close i) (omega arith)
frames_back (NotTaken c n) good rest =
    there 5 (frame_bytes (NotTaken c n) ++ rest) (NotTaken (number (high c) (low c)) (number (high n) (low n))) (omega arith) ∙ (rw (split c, split n))

same_frame : (x y : Frame × ℕ) → Some x ≡ Some y → x ≡ y
same_frame x y q = cc

some_byte : (f : Frame) (rest : List ℕ) → 0 < length (frame_bytes f ++ rest)
some_byte (ToClient c bs) rest = omega arith
some_byte (ToOrigin i bs) rest = omega arith
some_byte (CloseClient c) rest = omega arith
some_byte (Open i) rest = omega arith
some_byte (Close i) rest = omega arith
some_byte (NotTaken c n) rest = omega arith

not_empty : (f : Frame) (rest : List ℕ) → [] ≡ frame_bytes f ++ rest → ⊥
not_empty f rest q = let l : 0 ≡ length (frame_bytes f ++ rest) = ap length q in omega (arith, l, some_byte f rest)

first_same : (f g : Frame) (a b : List ℕ) → GoodFrame f → GoodFrame g → frame_bytes f ++ a ≡ frame_bytes g ++ b → f ≡ g
first_same f g a b p q e =
    ap (λ (z : Frame × ℕ). z.0)
    (same_frame (f, length (frame_bytes f)) (g, length (frame_bytes g)) (sym (frames_back f p a) ∙ ap frame_of e ∙ frames_back g q b))

rest_same : (f g : Frame) (a b : List ℕ) → f ≡ g → frame_bytes f ++ a ≡ frame_bytes g ++ b → a ≡ b
rest_same f g a b same e =
    append_cancel_left (frame_bytes f) a b (e ∙ ap (λ (z : Frame). frame_bytes z ++ b) (sym same))

pub one_reading : OneReading
one_reading [] [] p q e = refl
one_reading [] (g ∷ gs) p q e = absurd (not_empty g (out_bytes gs) e)
one_reading (f ∷ fs) [] p q e = absurd (not_empty f (out_bytes fs) (sym e))
one_reading (f ∷ fs) (g ∷ gs) p q e =
    let same = first_same f g (out_bytes fs) (out_bytes gs) p.0 q.0 e in
    let rest = one_reading fs gs p.1 q.1 (rest_same f g (out_bytes fs) (out_bytes gs) same e) in
    cc
