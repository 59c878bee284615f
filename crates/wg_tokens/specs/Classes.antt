-- Which terminal of the grammar a token is. The readers of grammars compare terminals as numbers, so each class has one. Own.
use Rattle.std.specs.Prelude.{ℕ, ◌+◌, ◌==◌, if◌then◌else◌, Option, Some, None}
use Rattle.wg_tokens.specs.declared.class.Class.{Class}
use Rattle.wg_tokens.specs.declared.class.Class.TheVariants as c
use Rattle.wg_tokens.specs.declared.keyword.Keyword.{Keyword}
use Rattle.wg_tokens.specs.declared.keyword.Keyword.TheVariants as k
use Rattle.wg_tokens.specs.declared.mark.Mark.{Mark}
use Rattle.wg_tokens.specs.declared.mark.Mark.TheVariants as m
use Rattle.wg_tokens.specs.declared.token.Token.{Token}
use Rattle.wg_tokens.specs.declared.token.TokenKind.{TokenKind}
use Rattle.wg_tokens.specs.declared.token.TokenKind.TheVariants as kind
use Rattle.wg_tokens.specs.Spelled.{keyword_of}

abbrev pub word_class : Option Keyword → Class
word_class (Some keyword) = c.Word keyword
word_class None = c.Name

abbrev pub class_of : TokenKind → Class
class_of (kind.Plain name) = word_class (keyword_of name)
class_of (kind.Number value unsigned long) = if value == 0 then c.Zero else c.Number
class_of (kind.Text bytes) = c.Text
class_of (kind.Mark mark) = c.Mark mark
class_of kind.End = c.End

-- the number of a word of the language
abbrev pub of_word : Keyword → ℕ
of_word k.Struct = 5
of_word k.GloballyCoherent = 6
of_word k.Register = 7
of_word k.RwByteAddressBuffer = 8
of_word k.ByteAddressBuffer = 9
of_word k.RwStructuredBuffer = 10
of_word k.StructuredBuffer = 11
of_word k.GroupShared = 12
of_word k.Static = 13
of_word k.Const = 14
of_word k.Void = 15
of_word k.In = 16
of_word k.Out = 17
of_word k.InOut = 18
of_word k.Break = 19
of_word k.Continue = 20
of_word k.Return = 21
of_word k.If = 22
of_word k.Else = 23
of_word k.While = 24
of_word k.For = 25
of_word k.True = 26
of_word k.False = 27
of_word k.Bool = 28
of_word k.Bool2 = 29
of_word k.Bool3 = 30
of_word k.Bool4 = 31
of_word k.Int = 32
of_word k.Int2 = 33
of_word k.Int3 = 34
of_word k.Int4 = 35
of_word k.Uint = 36
of_word k.Uint2 = 37
of_word k.Uint3 = 38
of_word k.Uint4 = 39
of_word k.Int16 = 40
of_word k.Uint16 = 41
of_word k.Int64 = 42
of_word k.Uint64 = 43
of_word k.DispatchNodeInputRecord = 44
of_word k.RwDispatchNodeInputRecord = 45
of_word k.GroupNodeInputRecords = 46
of_word k.RwGroupNodeInputRecords = 47
of_word k.ThreadNodeInputRecord = 48
of_word k.RwThreadNodeInputRecord = 49
of_word k.EmptyNodeInput = 50
of_word k.NodeOutput = 51
of_word k.NodeOutputArray = 52
of_word k.EmptyNodeOutput = 53
of_word k.EmptyNodeOutputArray = 54
of_word k.ThreadNodeOutputRecords = 55
of_word k.GroupNodeOutputRecords = 56

-- the number of a mark
abbrev pub of_mark : Mark → ℕ
of_mark m.LeftBrace = 57
of_mark m.RightBrace = 58
of_mark m.LeftParen = 59
of_mark m.RightParen = 60
of_mark m.LeftBracket = 61
of_mark m.RightBracket = 62
of_mark m.Less = 63
of_mark m.Greater = 64
of_mark m.Semicolon = 65
of_mark m.Comma = 66
of_mark m.Dot = 67
of_mark m.Colon = 68
of_mark m.Question = 69
of_mark m.Assign = 70
of_mark m.Plus = 71
of_mark m.Minus = 72
of_mark m.Star = 73
of_mark m.Slash = 74
of_mark m.Percent = 75
of_mark m.Ampersand = 76
of_mark m.Bar = 77
of_mark m.Caret = 78
of_mark m.Not = 79
of_mark m.Tilde = 80
of_mark m.AtMost = 81
of_mark m.AtLeast = 82
of_mark m.Equal = 83
of_mark m.NotEqual = 84
of_mark m.PlusAssign = 85
of_mark m.MinusAssign = 86
of_mark m.StarAssign = 87
of_mark m.SlashAssign = 88
of_mark m.PercentAssign = 89
of_mark m.AmpersandAssign = 90
of_mark m.BarAssign = 91
of_mark m.CaretAssign = 92
of_mark m.ShiftLeft = 93
of_mark m.ShiftRight = 94
of_mark m.And = 95
of_mark m.Or = 96
of_mark m.Increment = 97
of_mark m.Decrement = 98
of_mark m.ShiftLeftAssign = 99
of_mark m.ShiftRightAssign = 100

abbrev pub NAME : ℕ
NAME = 0

-- a number token of value 0, and one of another value
abbrev pub ZERO : ℕ
ZERO = 1

abbrev pub NUMBER : ℕ
NUMBER = 2

abbrev pub TEXT : ℕ
TEXT = 3

abbrev pub END : ℕ
END = 4

abbrev pub number : Class → ℕ
number c.Name = NAME
number c.Zero = ZERO
number c.Number = NUMBER
number c.Text = TEXT
number c.End = END
number (c.Word keyword) = of_word keyword
number (c.Mark mark) = of_mark mark

abbrev pub class : Token → ℕ
class t = number (class_of t.kind)
