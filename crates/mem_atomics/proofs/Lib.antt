mod NewWordRows
