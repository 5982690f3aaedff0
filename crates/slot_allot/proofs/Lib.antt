mod WideExamples
